-- The theorem of demand 3, applied to the series.
-- Assumes nothing.
use native.Mathlib.Omega.{arith}
use Prim.Native.Nat.{ℕ, ◌^◌, ◌<◌}
use mathlib.Core.Path.{refl}
use mathlib.Core.List.{List, ◌++◌}
use lib.ListN.{get_or}
use Rattle.words.specs.Bits.{bit}
use Rattle.fields.specs.Field.{is_set}
use Rattle.memory.specs.Word.{word_at, words_at}
use Rattle.areas.specs.Place.{placed_at, spot_at, placed_in}
use Rattle.decisions.specs.Valid.{Valid, Bytes}
use Rattle.series.specs.Abstract.{held}
use Rattle.series.specs.Claim.{Agree, Claim}
use Rattle.series.proofs.Starts.{follows}
use Rattle.witness.specs.Bytes.{Below, each_below, bytes_by}
use Rattle.witness.specs.Start.{start_d, start_a, start_core, window, window2, start}
use Rattle.witness.specs.Series.{interrupted, calls}
use Rattle.witness.specs.Lists.{begun}
use Rattle.witness.specs.Witness.{Witness}
use Rattle.witness.proofs.Example.{accepted, crossing, happened, no_area_left, no_area_used, after, restored, stored}
use Rattle.witness.proofs.Quiet.{quiet}

words : (xs : List ℕ) → Below (2 ^ 32) xs → (k : ℕ) → get_or xs k 0 < 2 ^ 32
words xs h = each_below (2 ^ 32) (omega arith) xs h

valid : Valid start.registers
valid =
    record {
      d = record { size = refl; each = words start_d _ };
      a = record { size = refl; each = words start_a _ };
      core = record { size = refl; each = words start_core _ };
      even = refl;
    }

bytes : Bytes start.memory.bytes
bytes = bytes_by (window ++ window2) _

agree : Agree start begun
unfolding bit is_set word_at words_at placed_at spot_at placed_in held
agree =
    record {
      free = (refl, λ e. omega (arith, e), 0, refl, (refl, λ e. omega (arith, e), 192, refl, (refl, λ e. omega (arith, e), 64, refl, refl)));
      saved = (refl, λ e. omega (arith, e), refl, 256, refl, refl, (refl, λ e. omega (arith, e), refl, 128, refl, refl, refl));
    }

claim : Claim start begun calls
claim = (follows start interrupted.bytes accepted valid bytes).holds begun agree calls quiet

pub applied : Witness
applied =
    record {
      accepted = accepted;
      agree = agree;
      crossing = crossing;
      quiet = quiet;
      happened = happened;
      no_area_left = no_area_left;
      no_area_used = no_area_used;
      after = after;
      restored = restored;
      stored = stored;
      claim = claim;
    }
