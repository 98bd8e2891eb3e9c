-- Each value of the table, computed from the definitions.
-- Assumes nothing.
use mathlib.Core.Path.{refl}
use native.Mathlib.Nat.{div-eq_of_lt}
use Rattle.words.specs.Bits.{bit}
use Rattle.words.specs.Value.{signed, low, within, clamp, shift_count}
use Rattle.words.specs.Result.{advance, wrapped_of, carried_of, saturated_of}
use Rattle.arithmetic.specs.Arithmetic.{add_of, adds_of, abs_of, mul_of}
use Rattle.bitwise.specs.Shift.{sha_left, sha_right, sha_of, sh_of}
use Rattle.bitwise.specs.Leading.{run, cls_of, clz_of}
use Rattle.compare.specs.Compare.{less_signed}
use Rattle.fields.specs.Field.{is_set}
use Rattle.protection.specs.Range.{enables, permits}
use Rattle.interrupts.specs.Sources.{takes}
use Rattle.bench.specs.Starred.{IntegerValues, RangeValues, InterruptValues, Starred}

integer_values_lem : IntegerValues
unfolding bit signed low within clamp shift_count advance wrapped_of carried_of saturated_of add_of adds_of abs_of mul_of sha_left sha_right sha_of sh_of run cls_of clz_of less_signed
integer_values_lem =
    record {
      add = refl;
      adds = refl;
      sha_word = refl;
      sha_carry = refl;
      sh = λ a h. div-eq_of_lt h;
      abs_word = refl;
      abs_overflow = refl;
      mul_word = refl;
      mul_overflow = refl;
      cls = refl;
      clz = refl;
      lt = refl;
      lt_u = refl;
    }

range_values_lem : RangeValues
unfolding bit is_set enables permits
range_values_lem = record { inside = refl; outside = refl }

interrupt_values_lem : InterruptValues
unfolding bit is_set takes
interrupt_values_lem = record { waits = refl; taken = refl }

pub starred : Starred
starred = record { integer = integer_values_lem; links = record { address = refl }; ranges = range_values_lem; interrupts = interrupt_values_lem }
