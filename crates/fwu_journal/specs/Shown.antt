-- The turns of a journal as the definitions have them.
use Rattle.std.specs.Prelude.{◌≡◌, ◌≤◌, ◌+◌, ℕ, List, length, map, ⊤, vec_len, vec_capacity}
use Rattle.fwu_model.specs.Reply as model
use Rattle.fwu_model.specs.Script.{room_limit}
use Rattle.early_boot.specs.{Ends.some_numbers, Numbers.numbers}
use Rattle.script_text.specs.Shown.{shown}
use Rattle.fwu_journal.specs.{declared.journal.Reply.Reply, declared.journal.Turn.Turn, declared.journal.Journal.Journal}
use Rattle.fwu_journal.specs.declared.journal.Reply.TheVariants as kind

abbrev pub reply : Reply → model.Reply
reply kind.Off = model.IsOff
reply kind.Lost = model.Lost
reply kind.Fault = model.Fault
reply kind.ReadFault = model.ReadFault
reply (kind.Refused status) = model.Refused status
reply kind.Success = model.Success
reply (kind.Discovered state) = model.Discovered state
reply (kind.Opened handle) = model.Opened handle
reply (kind.Got total bytes) = model.Got total bytes.items
reply (kind.Sent images skipped) = model.Sent images skipped
reply (kind.SentPartial images skipped copied) = model.SentPartial images skipped copied
reply (kind.Missing guid) = model.Missing guid
reply (kind.TooLarge guid) = model.TooLarge guid
reply (kind.BadPackage f) = model.BadPackage f
reply (kind.BadCapsule f) = model.BadCapsule f
reply (kind.BeginRefused status) = model.BeginRefused status
reply (kind.EndRefused status) = model.EndRefused status
reply (kind.Booted bank version trials counter fallback) = model.Booted bank version trials counter fallback
reply (kind.NotBooted why) = model.NotBooted why
reply kind.CutOk = model.CutOk
reply (kind.Shown n) = model.Shown (numbers n)
reply kind.NotUnderstood = model.NotUnderstood

-- what bounds the reply's text: a read got no more bytes than one may ask for. All else is short by its type
abbrev pub IsShortReply : model.Reply → Type 0
IsShortReply (model.Got total bytes) = length bytes ≤ room_limit
IsShortReply other = ⊤

abbrev pub turn : Turn → model.Turn
turn t = record { call = shown t.call; reply = reply t.reply; numbers = some_numbers numbers t.numbers }

abbrev pub turns : Journal → List model.Turn
turns journal = map turn journal.turns.items

-- there is room for so many turns more
abbrev pub HasRoomFor : Journal → ℕ → Type 0
HasRoomFor journal count = vec_len journal.turns + count ≤ vec_capacity journal.turns

-- new has one turn more than old, and loses no room but its
pub record OneMore (old new : Journal) : Type 0 where
  pub len : vec_len new.turns ≡ vec_len old.turns + 1
  pub room : vec_capacity old.turns ≤ vec_capacity new.turns
