-- A record that is written back as it was read is the same; and what is written back is read again.
-- Assumes nothing.
use Prim.Native.Nat.{ℕ, ◌^◌, ◌<◌}
use native.Mathlib.Omega.{arith}
use mathlib.Core.Path.{◌≡◌, ◌∙◌}
use mathlib.Core.Logic.{inl}
use mathlib.Core.List.{List}
use lib.ListN.{length, get_or}
use Rattle.memory.specs.Word.{words_at, put_words}
use Rattle.memory.proofs.Words.{put_words_length, put_words_kept, words_at_back, words_at_apart}
use Rattle.registers.specs.declared.Registers.{Registers}
use Rattle.records.specs.CoreRecord.{registers_in, requests_in, stored_in}

pub stored_kept : (bytes : List ℕ) → ((k : ℕ) → get_or bytes k 0 < 2 ^ 8) → stored_in (registers_in bytes) (requests_in bytes) bytes ≡ bytes
unfolding stored_in registers_in requests_in
stored_kept bytes b = rw (put_words_kept bytes b 0 16, put_words_kept bytes b 64 16, put_words_kept bytes b 128 10) (put_words_kept bytes b 168 16)

-- n words
abbrev Sized : ℕ → List ℕ → Type 0
Sized n ws = (length ws ≡ n) × ((k : ℕ) → get_or ws k 0 < 2 ^ 32)

module _ (r : Registers) (xs bytes : List ℕ) (l : length bytes ≡ 616) (d : Sized 16 r.d) (a : Sized 16 r.a) (core : Sized 10 r.core) where
  abbrev s1 : List ℕ
  s1 = put_words bytes 0 r.d 16

  abbrev s2 : List ℕ
  s2 = put_words s1 64 r.a 16

  abbrev s3 : List ℕ
  s3 = put_words s2 128 r.core 10

  abbrev s4 : List ℕ
  s4 = put_words s3 168 xs 16

  l1 : length s1 ≡ 616
  l1 = put_words_length bytes 0 r.d 16 ∙ l

  l2 : length s2 ≡ 616
  l2 = put_words_length s1 64 r.a 16 ∙ l1

  data_back : words_at s4 0 16 ≡ r.d
  data_back =
      words_at_apart s3 168 xs 16 0 16 (inl (omega arith))
      ∙ words_at_apart s2 128 r.core 10 0 16 (inl (omega arith))
      ∙ words_at_apart s1 64 r.a 16 0 16 (inl (omega arith))
      ∙ words_at_back bytes 0 r.d 16 (omega arith) d.0 d.1

  addresses_back : words_at s4 64 16 ≡ r.a
  addresses_back =
      words_at_apart s3 168 xs 16 64 16 (inl (omega arith))
      ∙ words_at_apart s2 128 r.core 10 64 16 (inl (omega arith))
      ∙ words_at_back s1 64 r.a 16 (omega (arith, l1)) a.0 a.1

  core_back : words_at s4 128 10 ≡ r.core
  core_back = words_at_apart s3 168 xs 16 128 10 (inl (omega arith)) ∙ words_at_back s2 128 r.core 10 (omega (arith, l2)) core.0 core.1

  pub registers_back : registers_in (stored_in r xs bytes) ≡ r
  unfolding registers_in stored_in
  registers_back = rw (data_back, addresses_back, core_back)
