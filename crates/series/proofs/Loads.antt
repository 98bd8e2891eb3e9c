-- The registers that a return loads are those that the area holds.
-- Assumes nothing.
use Prim.Native.Nat.{ℕ}
use native.Mathlib.Omega.{arith}
use mathlib.Core.Path.{◌≡◌, refl}
use mathlib.Core.List.{List, [], ◌∷◌}
use lib.ListN.{length}
use Rattle.memory.specs.Word.{word_at, words_at}
use Rattle.areas.specs.Area.{area_at}
use Rattle.registers.specs.Registers.{registers, with_pcxi, with_fcx}
use Rattle.registers.specs.declared.Registers.{Registers}
use Rattle.contexts.specs.Restore.{half_of}
use Rattle.contexts.specs.declared.context.Half.{Half}
use Rattle.contexts.specs.declared.context.Half.TheVariants.{Upper, Lower}
use Rattle.decisions.specs.Valid.{Valid}
use Rattle.decisions.proofs.Thens.{ReturnThen, ten}
use Rattle.decisions.proofs.Returnings.{loaded_at}
use Rattle.series.specs.Abstract.{upper_registers, lower_registers, named, held}

sixteen : (P : List ℕ → Type 0) → ((x0 x1 x2 x3 x4 x5 x6 x7 x8 x9 x10 x11 x12 x13 x14 x15 : ℕ) → P (x0 ∷ x1 ∷ x2 ∷ x3 ∷ x4 ∷ x5 ∷ x6 ∷ x7 ∷ x8 ∷ x9 ∷ x10 ∷ x11 ∷ x12 ∷ x13 ∷ x14 ∷ x15 ∷ [])) → (xs : List ℕ) → length xs ≡ 16 → P xs
sixteen P k [] l = absurd (omega arith)
sixteen P k (x0 ∷ []) l = absurd (omega arith)
sixteen P k (x0 ∷ x1 ∷ []) l = absurd (omega arith)
sixteen P k (x0 ∷ x1 ∷ x2 ∷ []) l = absurd (omega arith)
sixteen P k (x0 ∷ x1 ∷ x2 ∷ x3 ∷ []) l = absurd (omega arith)
sixteen P k (x0 ∷ x1 ∷ x2 ∷ x3 ∷ x4 ∷ []) l = absurd (omega arith)
sixteen P k (x0 ∷ x1 ∷ x2 ∷ x3 ∷ x4 ∷ x5 ∷ []) l = absurd (omega arith)
sixteen P k (x0 ∷ x1 ∷ x2 ∷ x3 ∷ x4 ∷ x5 ∷ x6 ∷ []) l = absurd (omega arith)
sixteen P k (x0 ∷ x1 ∷ x2 ∷ x3 ∷ x4 ∷ x5 ∷ x6 ∷ x7 ∷ []) l = absurd (omega arith)
sixteen P k (x0 ∷ x1 ∷ x2 ∷ x3 ∷ x4 ∷ x5 ∷ x6 ∷ x7 ∷ x8 ∷ []) l = absurd (omega arith)
sixteen P k (x0 ∷ x1 ∷ x2 ∷ x3 ∷ x4 ∷ x5 ∷ x6 ∷ x7 ∷ x8 ∷ x9 ∷ []) l = absurd (omega arith)
sixteen P k (x0 ∷ x1 ∷ x2 ∷ x3 ∷ x4 ∷ x5 ∷ x6 ∷ x7 ∷ x8 ∷ x9 ∷ x10 ∷ []) l = absurd (omega arith)
sixteen P k (x0 ∷ x1 ∷ x2 ∷ x3 ∷ x4 ∷ x5 ∷ x6 ∷ x7 ∷ x8 ∷ x9 ∷ x10 ∷ x11 ∷ []) l = absurd (omega arith)
sixteen P k (x0 ∷ x1 ∷ x2 ∷ x3 ∷ x4 ∷ x5 ∷ x6 ∷ x7 ∷ x8 ∷ x9 ∷ x10 ∷ x11 ∷ x12 ∷ []) l = absurd (omega arith)
sixteen P k (x0 ∷ x1 ∷ x2 ∷ x3 ∷ x4 ∷ x5 ∷ x6 ∷ x7 ∷ x8 ∷ x9 ∷ x10 ∷ x11 ∷ x12 ∷ x13 ∷ []) l = absurd (omega arith)
sixteen P k (x0 ∷ x1 ∷ x2 ∷ x3 ∷ x4 ∷ x5 ∷ x6 ∷ x7 ∷ x8 ∷ x9 ∷ x10 ∷ x11 ∷ x12 ∷ x13 ∷ x14 ∷ []) l = absurd (omega arith)
sixteen P k (x0 ∷ x1 ∷ x2 ∷ x3 ∷ x4 ∷ x5 ∷ x6 ∷ x7 ∷ x8 ∷ x9 ∷ x10 ∷ x11 ∷ x12 ∷ x13 ∷ x14 ∷ x15 ∷ []) l = k x0 x1 x2 x3 x4 x5 x6 x7 x8 x9 x10 x11 x12 x13 x14 x15
sixteen P k (x0 ∷ x1 ∷ x2 ∷ x3 ∷ x4 ∷ x5 ∷ x6 ∷ x7 ∷ x8 ∷ x9 ∷ x10 ∷ x11 ∷ x12 ∷ x13 ∷ x14 ∷ x15 ∷ y ∷ ys) l = absurd (omega arith)

-- one by one, whatever the registers were
module _ (half : Half) (area : List ℕ) (link : ℕ) where
  abbrev Loads : List ℕ → List ℕ → List ℕ → Type 0
  Loads d a core = named half (with_fcx link (with_pcxi (word_at area 0) (half_of half area (registers d a core)))) ≡ held half area

upper_loads : (area : List ℕ) (link : ℕ) (d a core : List ℕ) → length d ≡ 16 → length a ≡ 16 → length core ≡ 10 → Loads Upper area link d a core
unfolding held words_at upper_registers
upper_loads area link d a core ld la lc =
    sixteen (λ (d' : List ℕ). Loads Upper area link d' a core)
    (λ u0 u1 u2 u3 u4 u5 u6 u7 u8 u9 u10 u11 u12 u13 u14 u15.
    sixteen (λ (a' : List ℕ). Loads Upper area link (u0 ∷ u1 ∷ u2 ∷ u3 ∷ u4 ∷ u5 ∷ u6 ∷ u7 ∷ u8 ∷ u9 ∷ u10 ∷ u11 ∷ u12 ∷ u13 ∷ u14 ∷ u15 ∷ []) a' core)
    (λ w0 w1 w2 w3 w4 w5 w6 w7 w8 w9 w10 w11 w12 w13 w14 w15.
    ten (λ (c : List ℕ). Loads Upper area link (u0 ∷ u1 ∷ u2 ∷ u3 ∷ u4 ∷ u5 ∷ u6 ∷ u7 ∷ u8 ∷ u9 ∷ u10 ∷ u11 ∷ u12 ∷ u13 ∷ u14 ∷ u15 ∷ []) (w0 ∷ w1 ∷ w2 ∷ w3 ∷ w4 ∷ w5 ∷ w6 ∷ w7 ∷ w8 ∷ w9 ∷ w10 ∷ w11 ∷ w12 ∷ w13 ∷ w14 ∷ w15 ∷ []) c)
    (λ c0 c1 c2 c3 c4 c5 c6 c7 c8 c9. refl) core lc) a la) d ld

lower_loads : (area : List ℕ) (link : ℕ) (d a core : List ℕ) → length d ≡ 16 → length a ≡ 16 → length core ≡ 10 → Loads Lower area link d a core
unfolding held words_at lower_registers
lower_loads area link d a core ld la lc =
    sixteen (λ (d' : List ℕ). Loads Lower area link d' a core)
    (λ u0 u1 u2 u3 u4 u5 u6 u7 u8 u9 u10 u11 u12 u13 u14 u15.
    sixteen (λ (a' : List ℕ). Loads Lower area link (u0 ∷ u1 ∷ u2 ∷ u3 ∷ u4 ∷ u5 ∷ u6 ∷ u7 ∷ u8 ∷ u9 ∷ u10 ∷ u11 ∷ u12 ∷ u13 ∷ u14 ∷ u15 ∷ []) a' core)
    (λ w0 w1 w2 w3 w4 w5 w6 w7 w8 w9 w10 w11 w12 w13 w14 w15.
    ten (λ (c : List ℕ). Loads Lower area link (u0 ∷ u1 ∷ u2 ∷ u3 ∷ u4 ∷ u5 ∷ u6 ∷ u7 ∷ u8 ∷ u9 ∷ u10 ∷ u11 ∷ u12 ∷ u13 ∷ u14 ∷ u15 ∷ []) (w0 ∷ w1 ∷ w2 ∷ w3 ∷ w4 ∷ w5 ∷ w6 ∷ w7 ∷ w8 ∷ w9 ∷ w10 ∷ w11 ∷ w12 ∷ w13 ∷ w14 ∷ w15 ∷ []) c)
    (λ c0 c1 c2 c3 c4 c5 c6 c7 c8 c9. refl) core lc) a la) d ld

pub loaded_held : (half : Half) (at : ℕ) (r : Registers) (bytes : List ℕ) → Valid r → named half (loaded_at half at r bytes) ≡ held half (area_at bytes at)
loaded_held Upper at r bytes w = upper_loads (area_at bytes at) _ r.d r.a r.core w.d.size w.a.size w.core.size
loaded_held Lower at r bytes w = lower_loads (area_at bytes at) _ r.d r.a r.core w.d.size w.a.size w.core.size

-- what follows a return leaves them
pub named_then : (half : Half) (then : Registers → Registers) → ReturnThen then → (q : Registers) → named half (then q) ≡ named half q
unfolding upper_registers lower_registers
named_then Upper then t q = rw (t.pcxi_same q, t.psw_same q, t.a_same q, t.d_same q)
named_then Lower then t q = rw (t.pcxi_same q, t.a_same q, t.d_same q)
