-- A series of the host's calls leaves what the series of steps and runs leaves.
-- Assumes nothing.
use native.Mathlib.Decide.{ℕ_discrete}
use mathlib.Core.Path.{◌≡◌, refl, sym, ap, subst, ◌∙◌}
use mathlib.Core.List.{List, [], ◌∷◌}
use lib.ListN.{length}
use borrow.Author.Tests.{eq-eqb, ne_eqb}
use Rattle.registers.specs.declared.Registers.{Registers}
use Rattle.decisions.specs.Valid.{Words, Valid, Bytes}
use Rattle.machine.specs.Step.{step_of}
use Rattle.machine.specs.Run.{run_of}
use Rattle.machine.proofs.Unmade.{unmoved}
use Rattle.machine.proofs.Stays.{InBounds, step_bounds, run_bounds, run_refuses}
use Rattle.series.specs.Calls.{Kind, step, run, Call, State, state, after, after_all}
use Rattle.series.specs.Claim.{Follows}
use Rattle.records.specs.CoreRecord.{registers_in, requests_in, ranges_of}
use Rattle.deqbaryn.specs.Calls.{HostCall, series_call, leaves, leaves_all, HandedOn, calls_of, HostFollows}
use Rattle.deqbaryn.proofs.Hosts.{step_stored_lem, run_stored_lem}

words : {r : Registers} → Valid r → Words 16 r.d × Words 16 r.a × Words 10 r.core
words v = (v.d, v.a, v.core)

-- ---- a call
module _ (h : HostCall) (s : State) (bounds : InBounds s.registers s.memory) (l : length h.core.bytes ≡ 616) (reg : registers_in h.core.bytes ≡ s.registers) where
  call_bounds : (k : Kind) → h.kind ≡ k → (let t = after (series_call h) s in InBounds t.registers t.memory)
  call_bounds step e = rw e (step_bounds h.image.are (ranges_of h.core.bytes) bounds (requests_in h.core.bytes))
  call_bounds (run n) e = rw e (run_bounds h.image.are (ranges_of h.core.bytes) n bounds (requests_in h.core.bytes))

  call_leaves : (k : Kind) → h.kind ≡ k → leaves h s ≡ after (series_call h) s
  call_leaves step e =
      let bytes = h.core.bytes in
      let img = h.image.bytes in
      let v = step_of img s.registers (requests_in bytes) (ranges_of bytes) s.memory in
      let w = words (step_bounds h.image.are (ranges_of bytes) bounds (requests_in bytes)).valid in
      rw (e, eq-eqb (length bytes) 616 l, reg)
      (ap (λ (q : Registers). state q v.memory)
      (step_stored_lem bytes l v.registers w v.requests (sym reg) (requests_in bytes) s.memory v.memory img (ranges_of bytes) v.outcome v.permits (unmoved img s.registers (requests_in bytes) (ranges_of bytes) s.memory)))
  call_leaves (run n) e =
      let bytes = h.core.bytes in
      let img = h.image.bytes in
      let v = run_of n img s.registers (requests_in bytes) (ranges_of bytes) s.memory in
      let w = words (run_bounds h.image.are (ranges_of bytes) n bounds (requests_in bytes)).valid in
      rw (e, eq-eqb (length bytes) 616 l, reg)
      (ap (λ (q : Registers). state q v.memory)
      (run_stored_lem bytes l v.registers w v.requests (sym reg) (requests_in bytes) s.memory v.memory v.outcome v.made (run_refuses h.image.are (ranges_of bytes) n bounds (requests_in bytes))))

-- a record of another length
call_none : (h : HostCall) (s : State) → (length h.core.bytes ≡ 616 → ⊥) → (k : Kind) → h.kind ≡ k → leaves h s ≡ s
call_none h s n step e = rw (e, ne_eqb (length h.core.bytes) 616 n)
call_none h s n (run k) e = rw (e, ne_eqb (length h.core.bytes) 616 n)

-- ---- a series
calls_one : (h : HostCall) (hs : List HostCall) → length h.core.bytes ≡ 616 → calls_of (h ∷ hs) ≡ series_call h ∷ calls_of hs
calls_one h hs l = rw (eq-eqb (length h.core.bytes) 616 l)

calls_none : (h : HostCall) (hs : List HostCall) → (length h.core.bytes ≡ 616 → ⊥) → calls_of (h ∷ hs) ≡ calls_of hs
calls_none h hs n = rw (ne_eqb (length h.core.bytes) 616 n)

all_leave : (hs : List HostCall) (s : State) → InBounds s.registers s.memory → HandedOn hs s → leaves_all hs s ≡ after_all (calls_of hs) s
all_leave [] s bounds p = refl
all_leave (h ∷ hs) s bounds (reg, rest) = by (ℕ_discrete (length h.core.bytes) 616) (all_leave hs)
  where
    by : Dec (length h.core.bytes ≡ 616) → ((t : State) → InBounds t.registers t.memory → HandedOn hs t → leaves_all hs t ≡ after_all (calls_of hs) t) → leaves_all hs (leaves h s) ≡ after_all (calls_of (h ∷ hs)) s
    by (yes l) next =
        let e = call_leaves h s bounds l (reg l) h.kind refl in
        let t = call_bounds h s bounds l (reg l) h.kind refl in
        ap (leaves_all hs) e ∙ next (after (series_call h) s) t (subst (HandedOn hs) e rest) ∙ ap (λ (cs : List Call). after_all cs s) (sym (calls_one h hs l))
    by (no n) next =
        let e = call_none h s n h.kind refl in
        ap (leaves_all hs) e ∙ next s bounds (subst (HandedOn hs) e rest) ∙ ap (λ (cs : List Call). after_all cs s) (sym (calls_none h hs n))

pub host_follows : (s : State) → Valid s.registers → Bytes s.memory.bytes → Follows s → HostFollows s
host_follows s v b f = record { same = λ hs p. all_leave hs s (record { valid = v; bytes = b }) p; follows = f }
