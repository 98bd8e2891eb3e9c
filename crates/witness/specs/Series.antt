-- The series: its images, and its calls.
use Rattle.std.specs.Prelude.{ℕ, ◌+◌, ◌*◌, ◌^◌, List, [], ◌∷◌, ◌++◌, replicate}
use Rattle.protection.specs.declared.range.Range.{Range}
use Rattle.series.specs.Calls.{Image, Kind, step, run, Call}
use Rattle.witness.specs.Bytes.{Below, bytes_by}
use Rattle.witness.specs.Start.{in_bytes}

abbrev pub range : ℕ → ℕ → ℕ → Range
range lower upper mode = record { lower = lower; upper = upper; mode = mode }

-- nothing is permitted
abbrev pub closed : List Range
closed = replicate 32 (range 0 0 0)

-- in set 0 the first data range permits reads and writes, the first code range fetches
abbrev pub opened : List Range
opened = range 0 0xFFFF_FFFF 0xC0 ∷ (replicate 3 (range 0 0 0) ++ (range 0 0xFFFF_FFFF 0x80 ∷ replicate 27 (range 0 0 0)))

-- no source requests
abbrev pub none : List ℕ
none = replicate 16 0

-- source 3 is enabled and requests, with priority number 9
abbrev pub requested : List ℕ
requested = replicate 3 0 ++ (0x609 ∷ replicate 12 0)

-- a record: operation, c, a, b, immediate word
abbrev pub instruction : ℕ → ℕ → ℕ → ℕ → ℕ → List ℕ
instruction op c a b imm = (op + c * 2 ^ 8 + a * 2 ^ 16 + b * 2 ^ 24) ∷ imm ∷ []

abbrev pub NOP : List ℕ
NOP = instruction 0 0 0 0 0

-- ST.W of D0 at A5
abbrev pub ST_W : List ℕ
ST_W = instruction 52 0 5 0 0

-- CALL to its own address
abbrev pub CALL : List ℕ
CALL = instruction 64 0 0 0 0

abbrev pub RET : List ℕ
RET = instruction 66 0 0 0 0

abbrev pub RFE : List ℕ
RFE = instruction 67 0 0 0 0

abbrev pub SVLCX : List ℕ
SVLCX = instruction 68 0 0 0 0

abbrev pub RSLCX : List ℕ
RSLCX = instruction 69 0 0 0 0

-- BISR with priority number 7
abbrev pub BISR : List ℕ
BISR = instruction 70 0 0 0 7

-- the short form of a record
abbrev pub short : List ℕ → List ℕ
short [] = []
short (w ∷ ws) = (w + 128) ∷ ws

-- an entry: load address, records, offset
abbrev pub entry : ℕ → ℕ → ℕ → List ℕ
entry load records offset = load ∷ records ∷ offset ∷ []

abbrev pub image : (words : List ℕ) → Below (2 ^ 8) (in_bytes words) → Image
image words are = record { bytes = in_bytes words; are = bytes_by (in_bytes words) are }

-- never reached, since the interrupt is taken before it
abbrev pub interrupted : Image
interrupted = image (1 ∷ (entry 0x8000_0000 1 16 ++ NOP)) _

-- at the interrupt's vector a short CALL; at that of class 3 a short ST.W, SVLCX
abbrev pub depleting : Image
depleting = image (2 ∷ (entry 0x8000_0060 2 28 ++ entry 0x8000_0120 1 44 ++ short ST_W ++ SVLCX ++ short CALL)) _

-- no bytes at all
abbrev pub nothing : Image
nothing = image [] _

-- RFE to the call's target, after a short form that is passed over; a short RET, RFE to the interrupted instruction, RET, RSLCX
abbrev pub unwinding : Image
unwinding = image (3 ∷ (entry 0x8000_0000 2 40 ++ entry 0x8000_0060 2 56 ++ entry 0x8000_0120 2 72 ++ RET ++ RSLCX ++ short NOP ++ RFE ++ short RET ++ RFE)) _

-- after these
abbrev pub onward : Image
onward = image (1 ∷ (entry 0x8000_0008 2 16 ++ BISR ++ NOP)) _

abbrev pub call : Kind → Image → List ℕ → List Range → Call
call k i xs rs = record { kind = k; image = i; requests = xs; ranges = rs }

-- an interrupt; then in a run the CALL with its FCD entry, the store, and the SVLCX that stops
abbrev pub saving_calls : List Call
saving_calls = call step interrupted requested opened ∷ call (run 5) depleting none opened ∷ []

-- a refused step; then a run of five returns
abbrev pub returning_calls : List Call
returning_calls = call step nothing none opened ∷ call (run 5) unwinding none opened ∷ []

-- BISR; then the host closes all ranges, and the next fetch traps
abbrev pub again : List Call
again = call step onward none opened ∷ call step onward none closed ∷ []

abbrev pub calls : List Call
calls = saving_calls ++ returning_calls ++ again
