-- The lines in ASCII: 32 is a space, 10 ends a line, '0' is 48.
use Rattle.std.specs.Prelude.{ℕ, ◌+◌, ◌/◌, ◌%◌, cond, List, [], ◌∷◌, ◌++◌, leb}
use Rattle.text.specs.Hex.{hex_of}
use Rattle.events.specs.Events.{stop_number}
use Rattle.events.specs.declared.event.Event.{Event}
use Rattle.events.specs.declared.event.Event.TheVariants.{Instruction, Interrupt, Trap}
use Rattle.events.specs.declared.event.Stop.{Stop}
use Rattle.inputs.specs.Verdict.{number_of, fault_of}
use Rattle.inputs.specs.declared.verdict.Refusal.{Refusal}

-- event pc next fcx pcxi
abbrev pub header_text : List ℕ
header_text = 101 ∷ 118 ∷ 101 ∷ 110 ∷ 116 ∷ 32 ∷ 112 ∷ 99 ∷ 32 ∷ 110 ∷ 101 ∷ 120 ∷ 116 ∷ 32 ∷ 102 ∷ 99 ∷ 120 ∷ 32 ∷ 112 ∷ 99 ∷ 120 ∷ 105 ∷ 10 ∷ []

-- ins, int, trap
abbrev pub name_of : Event → List ℕ
name_of Instruction = 105 ∷ 110 ∷ 115 ∷ []
name_of (Interrupt source) = 105 ∷ 110 ∷ 116 ∷ []
name_of (Trap t) = 116 ∷ 114 ∷ 97 ∷ 112 ∷ []

-- a word after a space
unfoldable pub field_of : ℕ → List ℕ
field_of w = 32 ∷ hex_of w

-- a step: its event, PC before, PC after, FCX, PCXI
unfoldable pub line_of : Event → ℕ → ℕ → ℕ → ℕ → List ℕ
line_of e pc next fcx pcxi = name_of e ++ field_of pc ++ field_of next ++ field_of fcx ++ field_of pcxi ++ 10 ∷ []

-- the digit of the place p, where n reaches it
unfoldable pub digit_of : ℕ → ℕ → List ℕ
digit_of n p = cond (leb p n) ((48 + n / p % 10) ∷ []) []

-- a number below 10^10, with no zeros in front
unfoldable pub decimal_of : ℕ → List ℕ
decimal_of n =
    digit_of n 1000000000 ++ digit_of n 100000000 ++ digit_of n 10000000 ++ digit_of n 1000000 ++ digit_of n 100000 ++ digit_of n 10000 ++ digit_of n 1000 ++ digit_of n 100 ++ digit_of n 10 ++ (48 + n % 10) ∷ []

-- stop and its number
unfoldable pub stop_of : Stop → List ℕ
stop_of s = (115 ∷ 116 ∷ 111 ∷ 112 ∷ 32 ∷ []) ++ decimal_of (stop_number s) ++ 10 ∷ []

-- end and the steps
unfoldable pub end_of : ℕ → List ℕ
end_of steps = (101 ∷ 110 ∷ 100 ∷ 32 ∷ []) ++ decimal_of steps ++ 10 ∷ []

-- refused, number and place
unfoldable pub refused_of : Refusal → List ℕ
refused_of x = (114 ∷ 101 ∷ 102 ∷ 117 ∷ 115 ∷ 101 ∷ 100 ∷ 32 ∷ []) ++ decimal_of (number_of x) ++ (32 ∷ []) ++ decimal_of (fault_of x) ++ 10 ∷ []

-- long
abbrev pub long_text : List ℕ
long_text = 108 ∷ 111 ∷ 110 ∷ 103 ∷ 10 ∷ []
