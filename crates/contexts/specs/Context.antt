-- The two contexts (002, 1.6 and Figure 3), each sixteen words, read up the figure.
use Rattle.std.specs.Prelude.{ℕ, Bool, true, false, List, [], ◌∷◌}
use Rattle.registers.specs.Registers.{D, A, psw, pcxi}
use Rattle.registers.specs.declared.Registers.{Registers}
use Rattle.contexts.specs.declared.context.Half.{Half}
use Rattle.contexts.specs.declared.context.Half.TheVariants.{Upper, Lower}

-- UL: 1 upper, 0 lower
abbrev pub ul_of : Half → Bool
ul_of Upper = true
ul_of Lower = false

-- PCXI, PSW, A10 to A15, D8 to D15
unfoldable pub upper_of : Registers → List ℕ
upper_of r =
    pcxi r ∷ psw r ∷ A r 10 ∷ A r 11 ∷ A r 12 ∷ A r 13 ∷ A r 14 ∷ A r 15 ∷ D r 8 ∷ D r 9 ∷ D r 10 ∷ D r 11 ∷ D r 12 ∷ D r 13 ∷ D r 14 ∷ D r 15 ∷ []

-- PCXI, saved PC, A2 to A7, D0 to D7
unfoldable pub lower_of : ℕ → Registers → List ℕ
lower_of saved-pc r =
    pcxi r ∷ saved-pc ∷ A r 2 ∷ A r 3 ∷ A r 4 ∷ A r 5 ∷ A r 6 ∷ A r 7 ∷ D r 0 ∷ D r 1 ∷ D r 2 ∷ D r 3 ∷ D r 4 ∷ D r 5 ∷ D r 6 ∷ D r 7 ∷ []

-- the sixteen words of a half, as a save finds them
abbrev pub context_of : Half → ℕ → Registers → List ℕ
context_of Upper saved-pc r = upper_of r
context_of Lower saved-pc r = lower_of saved-pc r
