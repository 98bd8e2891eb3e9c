-- The ten core registers by their places among the words of `core`, in document 01's order.
use Rattle.std.specs.Prelude.{ℕ, List, [], ◌∷◌}

-- how many words `core` has
abbrev pub CORE : ℕ
CORE = 10

abbrev pub PC : ℕ
PC = 0

abbrev pub PSW : ℕ
PSW = 1

abbrev pub PCXI : ℕ
PCXI = 2

abbrev pub FCX : ℕ
FCX = 3

abbrev pub LCX : ℕ
LCX = 4

abbrev pub ICR : ℕ
ICR = 5

abbrev pub ISP : ℕ
ISP = 6

abbrev pub BIV : ℕ
BIV = 7

abbrev pub BTV : ℕ
BTV = 8

abbrev pub SYSCON : ℕ
SYSCON = 9

-- all ten, in that order
abbrev pub places : List ℕ
places = PC ∷ PSW ∷ PCXI ∷ FCX ∷ LCX ∷ ICR ∷ ISP ∷ BIV ∷ BTV ∷ SYSCON ∷ []
