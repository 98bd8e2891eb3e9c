-- What a function returns, from what its calls ensure.
-- Assumes nothing.
use Rattle.std.proofs.Common.{◌≡◌, ℕ, Bool, not, ℤ}
use Rattle.words.specs.Value.{low, within, clamp, least, largest}
use Rattle.words.specs.Result.{advance, wrapped_of, carried_of, saturated_of}
use Rattle.words.specs.declared.result.Flagged.{Flagged}
use Rattle.words.specs.declared.result.Carried.{Carried}

pub wrapped_is : {x z : ℤ} {w : ℕ} {f g : Bool} → x ≡ z → w ≡ low x → f ≡ within least largest x → g ≡ advance w → ◌≡◌ {A = Flagged} (record { word = w; v = not f; av = g }) (wrapped_of z)
unfolding wrapped_of
wrapped_is e p q r = rw (← e, r, q, p)

pub carried_is : (c : Bool) {x z : ℤ} {r : Flagged} → x ≡ z → r ≡ wrapped_of x → ◌≡◌ {A = Carried} (record { word = r.word; c = c; v = r.v; av = r.av }) (carried_of c z)
unfolding wrapped_of carried_of
carried_is c e p = rw (p, e)

pub saturated_is : {lo' lo hi' hi z' z k k' : ℤ} {u w : ℕ} {f g : Bool} → lo' ≡ lo → hi' ≡ hi → z' ≡ z → u ≡ low z' → k ≡ clamp lo' hi' z' → k' ≡ k → w ≡ low k' → f ≡ within lo' hi' z' → g ≡ advance u → ◌≡◌ {A = Flagged} (record { word = w; v = not f; av = g }) (saturated_of lo hi z)
unfolding saturated_of
saturated_is a b e u k l p q r = rw (← a, ← b, ← e, r, u, q, p, l, k)
