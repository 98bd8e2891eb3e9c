use mathlib.Core.Path.{sym}
use native.Mathlib.Omega.{arith}
use Rattle.operations.proofs.Forms.{number_of, beyond}
use Rattle.operations.proofs.Table.{from_last}
use Rattle.operations.specs.Operations.{operation_of}
use Rattle.operations.proofs.decode.Goals as goal

pub returns-in-0 : goal.returns-in-0
unfolding operation_of
returns-in-0 c = rw (number_of 0 _ (omega arith) c.in-0.is)

pub returns-in-1 : goal.returns-in-1
unfolding operation_of
returns-in-1 c = rw (number_of 1 _ (omega arith) c.in-1.is)

pub returns-in-2 : goal.returns-in-2
unfolding operation_of
returns-in-2 c = rw (number_of 2 _ (omega arith) c.in-2.is)

pub returns-in-3 : goal.returns-in-3
unfolding operation_of
returns-in-3 c = rw (number_of 3 _ (omega arith) c.in-3.is)

pub returns-in-4 : goal.returns-in-4
unfolding operation_of
returns-in-4 c = rw (number_of 4 _ (omega arith) c.in-4.is)

pub returns-in-5 : goal.returns-in-5
unfolding operation_of
returns-in-5 c = rw (number_of 5 _ (omega arith) c.in-5.is)

pub returns-in-6 : goal.returns-in-6
unfolding operation_of
returns-in-6 c = rw (number_of 6 _ (omega arith) c.in-6.is)

pub returns-in-7 : goal.returns-in-7
unfolding operation_of
returns-in-7 c = rw (number_of 7 _ (omega arith) c.in-7.is)

pub returns-in-8 : goal.returns-in-8
unfolding operation_of
returns-in-8 c = rw (number_of 8 _ (omega arith) c.in-8.is)

pub returns-in-9 : goal.returns-in-9
unfolding operation_of
returns-in-9 c = rw (number_of 9 _ (omega arith) c.in-9.is)

pub returns-in-10 : goal.returns-in-10
unfolding operation_of
returns-in-10 c = rw (number_of 10 _ (omega arith) c.in-10.is)

pub returns-in-11 : goal.returns-in-11
unfolding operation_of
returns-in-11 c = rw (number_of 11 _ (omega arith) c.in-11.is)

pub returns-in-12 : goal.returns-in-12
unfolding operation_of
returns-in-12 c = rw (number_of 12 _ (omega arith) c.in-12.is)

pub returns-in-13 : goal.returns-in-13
unfolding operation_of
returns-in-13 c = rw (number_of 13 _ (omega arith) c.in-13.is)

pub returns-in-14 : goal.returns-in-14
unfolding operation_of
returns-in-14 c = rw (number_of 14 _ (omega arith) c.in-14.is)

pub returns-in-15 : goal.returns-in-15
unfolding operation_of
returns-in-15 c = rw (number_of 15 _ (omega arith) c.in-15.is)

pub returns-in-16 : goal.returns-in-16
unfolding operation_of
returns-in-16 c = rw (number_of 16 _ (omega arith) c.in-16.is)

pub returns-in-17 : goal.returns-in-17
unfolding operation_of
returns-in-17 c = rw (number_of 17 _ (omega arith) c.in-17.is)

pub returns-in-18 : goal.returns-in-18
unfolding operation_of
returns-in-18 c = rw (number_of 18 _ (omega arith) c.in-18.is)

pub returns-in-19 : goal.returns-in-19
unfolding operation_of
returns-in-19 c = rw (number_of 19 _ (omega arith) c.in-19.is)

pub returns-in-20 : goal.returns-in-20
unfolding operation_of
returns-in-20 c = rw (number_of 20 _ (omega arith) c.in-20.is)

pub returns-in-21 : goal.returns-in-21
unfolding operation_of
returns-in-21 c = rw (number_of 21 _ (omega arith) c.in-21.is)

pub returns-in-22 : goal.returns-in-22
unfolding operation_of
returns-in-22 c = rw (number_of 22 _ (omega arith) c.in-22.is)

pub returns-in-23 : goal.returns-in-23
unfolding operation_of
returns-in-23 c = rw (number_of 23 _ (omega arith) c.in-23.is)

pub returns-in-24 : goal.returns-in-24
unfolding operation_of
returns-in-24 c = rw (number_of 24 _ (omega arith) c.in-24.is)

pub returns-in-25 : goal.returns-in-25
unfolding operation_of
returns-in-25 c = rw (number_of 25 _ (omega arith) c.in-25.is)

pub returns-in-26 : goal.returns-in-26
unfolding operation_of
returns-in-26 c = rw (number_of 26 _ (omega arith) c.in-26.is)

pub returns-in-27 : goal.returns-in-27
unfolding operation_of
returns-in-27 c = rw (number_of 27 _ (omega arith) c.in-27.is)

pub returns-in-28 : goal.returns-in-28
unfolding operation_of
returns-in-28 c = rw (number_of 28 _ (omega arith) c.in-28.is)

pub returns-in-29 : goal.returns-in-29
unfolding operation_of
returns-in-29 c = rw (number_of 29 _ (omega arith) c.in-29.is)

pub returns-in-30 : goal.returns-in-30
unfolding operation_of
returns-in-30 c = rw (number_of 30 _ (omega arith) c.in-30.is)

pub returns-in-31 : goal.returns-in-31
unfolding operation_of
returns-in-31 c = rw (number_of 31 _ (omega arith) c.in-31.is)

pub returns-in-32 : goal.returns-in-32
unfolding operation_of
returns-in-32 c = rw (number_of 32 _ (omega arith) c.in-32.is)

pub returns-in-33 : goal.returns-in-33
unfolding operation_of
returns-in-33 c = rw (number_of 33 _ (omega arith) c.in-33.is)

pub returns-in-34 : goal.returns-in-34
unfolding operation_of
returns-in-34 c = rw (number_of 34 _ (omega arith) c.in-34.is)

pub returns-in-35 : goal.returns-in-35
unfolding operation_of
returns-in-35 c = rw (number_of 35 _ (omega arith) c.in-35.is)

pub returns-in-36 : goal.returns-in-36
unfolding operation_of
returns-in-36 c = rw (number_of 36 _ (omega arith) c.in-36.is)

pub returns-in-37 : goal.returns-in-37
unfolding operation_of
returns-in-37 c = rw (number_of 37 _ (omega arith) c.in-37.is)

pub returns-in-38 : goal.returns-in-38
unfolding operation_of
returns-in-38 c = rw (number_of 38 _ (omega arith) c.in-38.is)

pub returns-in-39 : goal.returns-in-39
unfolding operation_of
returns-in-39 c = rw (number_of 39 _ (omega arith) c.in-39.is)

pub returns-in-40 : goal.returns-in-40
unfolding operation_of
returns-in-40 c = rw (number_of 40 _ (omega arith) c.in-40.is)

pub returns-in-41 : goal.returns-in-41
unfolding operation_of
returns-in-41 c = rw (number_of 41 _ (omega arith) c.in-41.is)

pub returns-in-42 : goal.returns-in-42
unfolding operation_of
returns-in-42 c = rw (number_of 42 _ (omega arith) c.in-42.is)

pub returns-in-43 : goal.returns-in-43
unfolding operation_of
returns-in-43 c = rw (number_of 43 _ (omega arith) c.in-43.is)

pub returns-in-44 : goal.returns-in-44
unfolding operation_of
returns-in-44 c = rw (number_of 44 _ (omega arith) c.in-44.is)

pub returns-in-45 : goal.returns-in-45
unfolding operation_of
returns-in-45 c = rw (number_of 45 _ (omega arith) c.in-45.is)

pub returns-in-46 : goal.returns-in-46
unfolding operation_of
returns-in-46 c = rw (number_of 46 _ (omega arith) c.in-46.is)

pub returns-in-47 : goal.returns-in-47
unfolding operation_of
returns-in-47 c = rw (number_of 47 _ (omega arith) c.in-47.is)

pub returns-in-48 : goal.returns-in-48
unfolding operation_of
returns-in-48 c = rw (number_of 48 _ (omega arith) c.in-48.is)

pub returns-in-49 : goal.returns-in-49
unfolding operation_of
returns-in-49 c = rw (number_of 49 _ (omega arith) c.in-49.is)

pub returns-in-50 : goal.returns-in-50
unfolding operation_of
returns-in-50 c = rw (number_of 50 _ (omega arith) c.in-50.is)

pub returns-in-51 : goal.returns-in-51
unfolding operation_of
returns-in-51 c = rw (number_of 51 _ (omega arith) c.in-51.is)

pub returns-in-52 : goal.returns-in-52
unfolding operation_of
returns-in-52 c = rw (number_of 52 _ (omega arith) c.in-52.is)

pub returns-in-53 : goal.returns-in-53
unfolding operation_of
returns-in-53 c = rw (number_of 53 _ (omega arith) c.in-53.is)

pub returns-in-54 : goal.returns-in-54
unfolding operation_of
returns-in-54 c = rw (number_of 54 _ (omega arith) c.in-54.is)

pub returns-in-55 : goal.returns-in-55
unfolding operation_of
returns-in-55 c = rw (number_of 55 _ (omega arith) c.in-55.is)

pub returns-in-56 : goal.returns-in-56
unfolding operation_of
returns-in-56 c = rw (number_of 56 _ (omega arith) c.in-56.is)

pub returns-in-57 : goal.returns-in-57
unfolding operation_of
returns-in-57 c = rw (number_of 57 _ (omega arith) c.in-57.is)

pub returns-in-58 : goal.returns-in-58
unfolding operation_of
returns-in-58 c = rw (number_of 58 _ (omega arith) c.in-58.is)

pub returns-in-59 : goal.returns-in-59
unfolding operation_of
returns-in-59 c = rw (number_of 59 _ (omega arith) c.in-59.is)

pub returns-in-60 : goal.returns-in-60
unfolding operation_of
returns-in-60 c = rw (number_of 60 _ (omega arith) c.in-60.is)

pub returns-in-61 : goal.returns-in-61
unfolding operation_of
returns-in-61 c = rw (number_of 61 _ (omega arith) c.in-61.is)

pub returns-in-62 : goal.returns-in-62
unfolding operation_of
returns-in-62 c = rw (number_of 62 _ (omega arith) c.in-62.is)

pub returns-in-63 : goal.returns-in-63
unfolding operation_of
returns-in-63 c = rw (number_of 63 _ (omega arith) c.in-63.is)

pub returns-in-64 : goal.returns-in-64
unfolding operation_of
returns-in-64 c = rw (number_of 64 _ (omega arith) c.in-64.is)

pub returns-in-65 : goal.returns-in-65
unfolding operation_of
returns-in-65 c = rw (number_of 65 _ (omega arith) c.in-65.is)

pub returns-in-66 : goal.returns-in-66
unfolding operation_of
returns-in-66 c = rw (number_of 66 _ (omega arith) c.in-66.is)

pub returns-in-67 : goal.returns-in-67
unfolding operation_of
returns-in-67 c = rw (number_of 67 _ (omega arith) c.in-67.is)

pub returns-in-68 : goal.returns-in-68
unfolding operation_of
returns-in-68 c = rw (number_of 68 _ (omega arith) c.in-68.is)

pub returns-in-69 : goal.returns-in-69
unfolding operation_of
returns-in-69 c = rw (number_of 69 _ (omega arith) c.in-69.is)

pub returns-in-70 : goal.returns-in-70
unfolding operation_of
returns-in-70 c = rw (number_of 70 _ (omega arith) c.in-70.is)

pub returns-in-71 : goal.returns-in-71
unfolding operation_of
returns-in-71 c = rw (number_of 71 _ (omega arith) c.in-71.is)

pub returns-in-72 : goal.returns-in-72
unfolding operation_of
returns-in-72 c = rw (number_of 72 _ (omega arith) c.in-72.is)

pub returns-in-73 : goal.returns-in-73
unfolding operation_of
returns-in-73 c = rw (number_of 73 _ (omega arith) c.in-73.is)

pub returns-in-74 : goal.returns-in-74
unfolding operation_of
returns-in-74 c = rw (number_of 74 _ (omega arith) c.in-74.is)

pub returns-in-75 : goal.returns-in-75
unfolding operation_of
returns-in-75 c = rw (number_of 75 _ (omega arith) c.in-75.is)

pub returns-in-76 : goal.returns-in-76
unfolding operation_of
returns-in-76 c = rw (number_of 76 _ (omega arith) c.in-76.is)

pub returns-in-77 : goal.returns-in-77
unfolding operation_of
returns-in-77 c = rw (number_of 77 _ (omega arith) c.in-77.is)

pub returns-in_default : goal.returns-in_default
unfolding operation_of
returns-in_default c = sym (from_last _ (beyond 78 c.args.byte c.in_default.in_default-own.rest))
