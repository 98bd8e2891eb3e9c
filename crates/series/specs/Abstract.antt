-- The abstract lists that a series is held against: document 01's book. Links come from them alone.
use Rattle.std.specs.Prelude.{ℕ, cond, List, [], ◌∷◌, ◌++◌, eqb}
use Rattle.memory.specs.Word.{word_at, words_at}
use Rattle.fields.specs.Pcxi.{pcxi_of}
use Rattle.registers.specs.Registers.{D, A, psw, pcxi, lcx, icr}
use Rattle.registers.specs.declared.Registers.{Registers}
use Rattle.fields.specs.Link.{link_of}
use Rattle.fields.specs.declared.link.Link.{Link}
use Rattle.contexts.specs.Context.{ul_of}
use Rattle.contexts.specs.declared.context.Half.{Half}
use Rattle.contexts.specs.declared.context.Half.TheVariants.{Upper, Lower}
use Rattle.execute.specs.Decision.{Decision, Keep, Write, Save, Return}

-- the upper half's registers but PCXI: PSW, A10 to A15, D8 to D15
unfoldable pub upper_registers : Registers → List ℕ
upper_registers r =
    psw r ∷ A r 10 ∷ A r 11 ∷ A r 12 ∷ A r 13 ∷ A r 14 ∷ A r 15 ∷ D r 8 ∷ D r 9 ∷ D r 10 ∷ D r 11 ∷ D r 12 ∷ D r 13 ∷ D r 14 ∷ D r 15 ∷ []

-- the lower half's: A2 to A7, D0 to D7; not the saved PC
unfoldable pub lower_registers : Registers → List ℕ
lower_registers r = A r 2 ∷ A r 3 ∷ A r 4 ∷ A r 5 ∷ A r 6 ∷ A r 7 ∷ D r 0 ∷ D r 1 ∷ D r 2 ∷ D r 3 ∷ D r 4 ∷ D r 5 ∷ D r 6 ∷ D r 7 ∷ []

-- a half's registers by name, PCXI first
abbrev pub named : Half → Registers → List ℕ
named Upper r = pcxi r ∷ upper_registers r
named Lower r = pcxi r ∷ lower_registers r

-- the same as the 64 bytes of an area hold them
unfoldable pub held : Half → List ℕ → List ℕ
held Upper area = word_at area 0 ∷ word_at area 4 ∷ (words_at area 8 6 ++ words_at area 32 8)
held Lower area = word_at area 0 ∷ (words_at area 8 6 ++ words_at area 32 8)

-- document 01's entry: a link, a half, and that half's registers
pub record SavedContext : Type 0 where
  pub link : Link
  pub half : Half
  pub registers : List ℕ

abbrev pub context : Link → Half → List ℕ → SavedContext
context l half rs = record { link = l; half = half; registers = rs }

-- document 01's book: `free` is its row, `saved` its pile, the top first
pub record AbstractLists : Type 0 where
  pub free : List Link
  pub saved : List SavedContext

abbrev pub lists : List Link → List SavedContext → AbstractLists
lists free saved = record { free = free; saved = saved }

abbrev pub links : List SavedContext → List Link
links [] = []
links (c ∷ cs) = c.link ∷ links cs

-- a save, as the rules give it from the step's arguments: the half and its registers as found; LCX's link; and of an FCD entry that may follow what its save finds: ICR from which the first save set PCXI, and the upper half's other registers in the state that the step had reached
pub record SaveOf : Type 0 where
  pub half : Half
  pub registers : List ℕ
  pub limit : Link
  pub icr : ℕ
  pub reached : List ℕ

-- a step's saves and return. Neither FCX nor the links of areas are in it
pub data ListMove : Type 0 where
  none : ListMove
  saves : SaveOf → ListMove
  returns : ListMove

abbrev pub list_move_of : Decision → Registers → ListMove
list_move_of (Keep q) r = none
list_move_of (Write op at v q) r = none
list_move_of (Save e half saved-pc then) r =
    saves (record { half = half; registers = named half r; limit = link_of (lcx r); icr = icr r; reached = upper_registers (then r) })
list_move_of (Return half then) r = returns

-- the FCD entry's save, after the one that took l. Where there is no link for it the step is a stop
abbrev pub save_two : SaveOf → Link → List Link → AbstractLists → AbstractLists
save_two s l [] b = b
save_two s l (k ∷ ks) b = lists ks (context k Upper (pcxi_of s.icr (ul_of s.half) l ∷ s.reached) ∷ context l s.half s.registers ∷ b.saved)

-- the first free link goes on top of the saved contexts
abbrev pub save_one : SaveOf → List Link → AbstractLists → AbstractLists
save_one s [] b = b
save_one s (l ∷ ls) b = cond (eqb l.0 s.limit.0) (save_two s l ls b) (lists ls (context l s.half s.registers ∷ b.saved))

-- the top one comes off, and its link goes first
abbrev pub return_one : List SavedContext → AbstractLists → AbstractLists
return_one [] b = b
return_one (c ∷ cs) b = lists (c.link ∷ b.free) cs

unfoldable pub moved : ListMove → AbstractLists → AbstractLists
moved none b = b
moved (saves s) b = save_one s b.free b
moved returns b = return_one b.saved b
