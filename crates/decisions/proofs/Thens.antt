-- What follows a save or a return in the registers: they stay words, and the heads of the lists are neither read nor written.
-- Assumes nothing.
use Prim.Native.Nat.{ℕ, ◌*◌, ◌%◌, ◌^◌, ◌<◌}
use native.Mathlib.Omega.{arith}
use mathlib.Core.Path.{◌≡◌, refl, ◌∙◌}
use mathlib.Core.Bool.{true, false}
use mathlib.Core.List.{List, [], ◌∷◌}
use lib.ListN.{length, get_or, set}
use lib.Seq.{get_or-set_other}
use lib.Bits.{bit_or}
use Rattle.fields.specs.Psw.{psw_is}
use Rattle.fields.specs.Icr.{icr_ccpn, icr_of}
use Rattle.fields.specs.Pcxi.{pcxi_pie, pcxi_pcpn}
use Rattle.fields.specs.Depth.{called_of}
use Rattle.fields.proofs.RangeSets.{level_called}
use Rattle.bounds.proofs.Fields.{icr_word, called_psw, or_word}
use Rattle.registers.specs.Registers.{registers, A, pc, psw, pcxi, fcx, icr, biv, btv, syscon, with_d, with_pc, with_icr, new_pc}
use Rattle.registers.specs.declared.Registers.{Registers}
use Rattle.events.specs.declared.trap.Trap.{Trap}
use Rattle.entries.specs.Entry.{stack_of, entered_of, trap_entry, interrupt_entry}
use Rattle.calls.specs.Saves.{called_then, bisr_then}
use Rattle.calls.specs.Returns.{rfe_then}
use Rattle.decisions.specs.Valid.{Valid}
use Rattle.decisions.proofs.Setters.{valid_d, valid_a, valid_core, valid_pc, even_word, even_even}
use Rattle.decisions.proofs.Values.{Word, either_has}
use Rattle.decisions.proofs.Levels.{ThenLevel, level_then, level_next, level_other, level_flags}
use Rattle.decisions.proofs.Sound.{TrapBytes}

-- the registers with the heads of the lists written
abbrev pub with_heads : ℕ → ℕ → Registers → Registers
with_heads p f q = registers q.d q.a (set (set q.core 2 p) 3 f)

-- ten core registers, one by one
pub ten : (P : List ℕ → Type 0) → ((a b c d e f g h i j : ℕ) → P (a ∷ b ∷ c ∷ d ∷ e ∷ f ∷ g ∷ h ∷ i ∷ j ∷ [])) → (xs : List ℕ) → length xs ≡ 10 → P xs
ten P k [] l = absurd (omega arith)
ten P k (a ∷ []) l = absurd (omega arith)
ten P k (a ∷ b ∷ []) l = absurd (omega arith)
ten P k (a ∷ b ∷ c ∷ []) l = absurd (omega arith)
ten P k (a ∷ b ∷ c ∷ d ∷ []) l = absurd (omega arith)
ten P k (a ∷ b ∷ c ∷ d ∷ e ∷ []) l = absurd (omega arith)
ten P k (a ∷ b ∷ c ∷ d ∷ e ∷ f ∷ []) l = absurd (omega arith)
ten P k (a ∷ b ∷ c ∷ d ∷ e ∷ f ∷ g ∷ []) l = absurd (omega arith)
ten P k (a ∷ b ∷ c ∷ d ∷ e ∷ f ∷ g ∷ h ∷ []) l = absurd (omega arith)
ten P k (a ∷ b ∷ c ∷ d ∷ e ∷ f ∷ g ∷ h ∷ i ∷ []) l = absurd (omega arith)
ten P k (a ∷ b ∷ c ∷ d ∷ e ∷ f ∷ g ∷ h ∷ i ∷ j ∷ []) l = k a b c d e f g h i j
ten P k (a ∷ b ∷ c ∷ d ∷ e ∷ f ∷ g ∷ h ∷ i ∷ j ∷ x ∷ xs) l = absurd (omega arith)

-- after a save
pub record Then (then : Registers → Registers) : Type 0 where
  pub valid : (q : Registers) → Valid q → Valid (then q)
  pub blind : (q : Registers) → Valid q → (p f : ℕ) → then (with_heads p f q) ≡ with_heads p f (then q)

pub heads_valid : {q : Registers} (p f : ℕ) → Valid q → Word p → Word f → Valid (with_heads p f q)
heads_valid p f w hp hf = valid_core (valid_core w 2 p (omega arith) hp) 3 f (omega arith) hf

module _ (q : Registers) (w : Valid q) (p f : ℕ) where
  abbrev Blind : (Registers → Registers) → List ℕ → Type 0
  Blind then core = then (with_heads p f (registers q.d q.a core)) ≡ with_heads p f (then (registers q.d q.a core))

  pub by_ten : (then : Registers → Registers) → ((a b c d e f g h i j : ℕ) → Blind then (a ∷ b ∷ c ∷ d ∷ e ∷ f ∷ g ∷ h ∷ i ∷ j ∷ [])) → then (with_heads p f q) ≡ with_heads p f (then q)
  by_ten then k = ten (Blind then) k q.core w.core.size

-- the heads are those that the save has set
pub head_fcx : (q : Registers) → Valid q → (p f : ℕ) → fcx (with_heads p f q) ≡ f
head_fcx q w p f = ten (λ (c : List ℕ). get_or (set (set c 2 p) 3 f) 3 0 ≡ f) (λ a b c d e f' g h i j. refl) q.core w.core.size

pub head_pcxi : (q : Registers) → Valid q → (p f : ℕ) → pcxi (with_heads p f q) ≡ p
head_pcxi q w p f = ten (λ (c : List ℕ). get_or (set (set c 2 p) 3 f) 2 0 ≡ p) (λ a b c d e f' g h i j. refl) q.core w.core.size

entered_valid : (back : ℕ) → Word back → (q : Registers) → Valid q → Valid (entered_of back q)
unfolding entered_of stack_of
entered_valid back h q w =
    valid_core (valid_a (valid_a w 10 _ (either_has Word (psw_is (psw q)) (w.a.each 10) (w.core.each 6))) 11 back h) 1 0xA80 (omega arith) (omega arith)

-- the entry of a trap
pub trap_then : (t : Trap) (back : ℕ) → TrapBytes t → Word back → Then (trap_entry t back)
unfolding trap_entry entered_of
trap_then t back b h =
    record {
      valid = λ q w.
          (let e = entered_of back q in
          let v = icr_of (icr e) false (icr_ccpn (icr e)) in
          let we : Valid e = entered_valid back h q w in
          let wf : Valid (with_d 15 t.tin (with_icr v e)) = valid_d (valid_core we 5 v (omega arith) (icr_word (icr e) false (icr_ccpn (icr e)) (we.core.each 5))) 15 t.tin (omega (arith, b.tin)) in
          let to = bit_or (btv (with_d 15 t.tin (with_icr v e))) (t.class * 32) in
          valid_pc wf (new_pc to) (even_word to (or_word _ (t.class * 32) (wf.core.each 8) (omega (arith, b.class)))) (even_even to));
      blind = λ q w p f. by_ten q w p f (trap_entry t back) (λ a b c d e f' g h' i j. refl);
    }

-- the entry of an interrupt
pub interrupt_then : (level : ℕ) → level < 2 ^ 8 → Then (interrupt_entry level)
unfolding interrupt_entry entered_of
interrupt_then level b =
    record {
      valid = λ q w.
          (let e = entered_of (pc q) q in
          let v = icr_of (icr e) false level in
          let we : Valid e = entered_valid (pc q) (w.core.each 0) q w in
          let wf : Valid (with_icr v e) = valid_core we 5 v (omega arith) (icr_word (icr e) false level (we.core.each 5)) in
          let to = bit_or (biv (with_icr v e)) (level * 32) in
          valid_pc wf (new_pc to) (even_word to (or_word _ (level * 32) (wf.core.each 7) (omega (arith, b)))) (even_even to));
      blind = λ q w p f. by_ten q w p f (interrupt_entry level) (λ a b' c d e f' g h i j. refl);
    }

-- calls, SVLCX and BISR
pub called_then_lem : (to next : ℕ) → Word to → Word next → Then (called_then to next)
unfolding called_then
called_then_lem to next h g =
    record {
      valid = λ q w. valid_pc (valid_core (valid_a w 11 next g) 1 (called_of (psw q)) (omega arith) (called_psw (psw q) (w.core.each 1))) (new_pc to) (even_word to h) (even_even to);
      blind = λ q w p f. by_ten q w p f (called_then to next) (λ a b c d e f' g' h' i j. refl);
    }

pub pc_then : (next : ℕ) → Word next → next % 2 ≡ 0 → Then (with_pc next)
pc_then next h e =
    record {
      valid = λ q w. valid_pc w next h e;
      blind = λ q w p f. by_ten q w p f (with_pc next) (λ a b c d e' f' g h' i j. refl);
    }

pub bisr_then_lem : (imm next : ℕ) → Word next → next % 2 ≡ 0 → Then (bisr_then imm next)
unfolding bisr_then
bisr_then_lem imm next h e =
    record {
      valid = λ q w. valid_pc (valid_core w 5 (icr_of (icr q) true imm) (omega arith) (icr_word (icr q) true imm (w.core.each 5))) next h e;
      blind = λ q w p f. by_ten q w p f (bisr_then imm next) (λ a b c d e' f' g h' i j. refl);
    }

-- after a return: but for PC and ICR the registers are as loaded
pub record ReturnThen (then : Registers → Registers) : Type 0 where
  pub valid : (q : Registers) → Valid q → Valid (then q)
  pub d_same : (q : Registers) → (then q).d ≡ q.d
  pub a_same : (q : Registers) → (then q).a ≡ q.a
  pub psw_same : (q : Registers) → psw (then q) ≡ psw q
  pub pcxi_same : (q : Registers) → pcxi (then q) ≡ pcxi q
  pub fcx_same : (q : Registers) → fcx (then q) ≡ fcx q
  pub syscon_same : (q : Registers) → syscon (then q) ≡ syscon q

pub return_pc : (to : ℕ) → Word to → to % 2 ≡ 0 → ReturnThen (with_pc to)
return_pc to h e =
    record {
      valid = λ q w. valid_pc w to h e;
      d_same = λ q. refl;
      a_same = λ q. refl;
      psw_same = λ q. get_or-set_other q.core 0 1 to 0 (λ x. omega arith);
      pcxi_same = λ q. get_or-set_other q.core 0 2 to 0 (λ x. omega arith);
      fcx_same = λ q. get_or-set_other q.core 0 3 to 0 (λ x. omega arith);
      syscon_same = λ q. get_or-set_other q.core 0 9 to 0 (λ x. omega arith);
    }

pub return_rfe : (r : Registers) → Valid r → ReturnThen (rfe_then r)
return_rfe r v =
    let to = new_pc (A r 11) in
    let i = icr_of (icr r) (pcxi_pie (pcxi r)) (pcxi_pcpn (pcxi r)) in
    record {
      valid = λ q w.
          valid_pc (valid_core w 5 i (omega arith) (icr_word (icr r) (pcxi_pie (pcxi r)) (pcxi_pcpn (pcxi r)) (v.core.each 5))) to (even_word (A r 11) (v.a.each 11)) (even_even (A r 11));
      d_same = λ q. refl;
      a_same = λ q. refl;
      psw_same = λ q. get_or-set_other (set q.core 5 i) 0 1 to 0 (λ x. omega arith) ∙ get_or-set_other q.core 5 1 i 0 (λ x. omega arith);
      pcxi_same = λ q. get_or-set_other (set q.core 5 i) 0 2 to 0 (λ x. omega arith) ∙ get_or-set_other q.core 5 2 i 0 (λ x. omega arith);
      fcx_same = λ q. get_or-set_other (set q.core 5 i) 0 3 to 0 (λ x. omega arith) ∙ get_or-set_other q.core 5 3 i 0 (λ x. omega arith);
      syscon_same = λ q. get_or-set_other (set q.core 5 i) 0 9 to 0 (λ x. omega arith) ∙ get_or-set_other q.core 5 9 i 0 (λ x. omega arith);
    }

-- what follows the save of an instruction leaves IO, PRS and SYSCON
pub called_level : (to next : ℕ) → ThenLevel (called_then to next)
unfolding called_then
called_level to next q v = level_flags _ _ _ _ q v (level_called (psw q))

pub pc_level : (next : ℕ) → ThenLevel (with_pc next)
pc_level next q v = level_next q.d q.a next q

pub bisr_level : (imm next : ℕ) → ThenLevel (bisr_then imm next)
unfolding bisr_then
bisr_level imm next q v =
    let i = icr_of (icr q) true imm in
    level_then {q = with_icr i q} (level_other 5 i q.d q.a q (λ e. omega arith) (λ e. omega arith)) (level_next q.d q.a next (with_icr i q))
