-- Inputs that the rules accept: document 01's image of CALL and RET, with the pool walk's window and state.
use Rattle.std.specs.Prelude.{ℕ, zero, suc, ◌+◌, ◌/◌, ◌%◌, ◌≡◌, List, [], ◌∷◌, ◌++◌, replicate, Ok}
use Rattle.memory.specs.Address.{as_address}
use Rattle.memory.specs.Memory.{Memory, lent}
use Rattle.inputs.specs.Checks.{start_verdict}

-- one entry at 80000000 with two records, at offset 10: CALL to PC + 4, RET
abbrev pub call_return : List ℕ
call_return =
    0x01 ∷ 0x00 ∷ 0x00 ∷ 0x00 ∷ 0x00 ∷ 0x00 ∷ 0x00 ∷ 0x80 ∷ 0x02 ∷ 0x00 ∷ 0x00 ∷ 0x00 ∷ 0x10 ∷ 0x00 ∷ 0x00 ∷ 0x00 ∷ 0x40 ∷ 0x00 ∷ 0x00 ∷ 0x00 ∷ 0x04 ∷ 0x00 ∷ 0x00 ∷ 0x00 ∷ 0x42 ∷ 0x00 ∷ 0x00 ∷ 0x00 ∷ 0x00 ∷ 0x00 ∷ 0x00 ∷ 0x00 ∷ []

-- the four bytes of a word
abbrev pub bytes_of : ℕ → List ℕ
bytes_of w = w % 0x100 ∷ w / 0x100 % 0x100 ∷ w / 0x1_0000 % 0x100 ∷ w / 0x100_0000 ∷ []

-- n areas that are linked ascending, the first one linked to the link l; link 0 ends the list
abbrev pub linked_from : ℕ → ℕ → List ℕ
linked_from zero l = []
linked_from (suc zero) l = replicate 64 0
linked_from (suc (suc n)) l = bytes_of l ++ (replicate 60 0 ++ linked_from (suc n) (l + 1))

-- the pool walk's windows: 4,096 bytes at D0000000, and a second one of length 0
abbrev pub pool : Memory
pool = lent (as_address 0xD000_0000) (linked_from 64 0xD_0001) (as_address 0) []

-- PC is the first load address, FCX D0000, PCXI 0
abbrev pub PoolAccepted : Type 0
PoolAccepted = start_verdict pool call_return 0x8000_0000 0xD_0000 0 ≡ (Ok tt)
