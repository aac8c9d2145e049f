-- The functions of the agent by their numbers, and which call a request asks for, by its function and its arguments.
use Rattle.std.specs.Prelude.{◌≡◌, ℕ, ◌==◌, ◌&&◌, nat_le, if◌then◌else◌, List, length, take, drop, Option, Some, None, option_map, ◌≤◌}
use Rattle.base_core.specs.Bytes.{num_at}
use Rattle.fwu_model.specs.{declared.kinds.Op.Op, Call.Call, Call.open_call}
use Rattle.fwu_model.specs.declared.kinds.Op.TheVariants as op
use Rattle.fwu_model.specs.Call as call
use Rattle.fwu_wire.specs.{declared.functions.Function.Function, declared.calls.AgentCall.AgentCall}
use Rattle.fwu_wire.specs.declared.functions.Function.TheVariants.{Discover, Begin, End, Cancel, Open, WriteStream, ReadStream, Commit, Accept, SelectPrevious}
use Rattle.fwu_wire.specs.declared.replies.AgentReply.{AgentReply}
use Rattle.fwu_wire.specs.declared.calls.AgentCall.TheVariants as wire
use Rattle.fwu_wire.specs.declared.replies.AgentReply.TheVariants as reply

-- the function of a number
abbrev pub function_of : ℕ → Option Function
function_of n =
    if n == 0 then Some Discover
    else if n == 16 then Some Begin
    else if n == 17 then Some End
    else if n == 18 then Some Cancel
    else if n == 19 then Some Open
    else if n == 20 then Some WriteStream
    else if n == 21 then Some ReadStream
    else if n == 22 then Some Commit
    else if n == 23 then Some Accept
    else if n == 24 then Some SelectPrevious
    else None

-- the arguments have so many bytes
abbrev pub of_length : ℕ → List ℕ → Call → Option Call
of_length n args c = if length args == n then Some c else None

abbrev pub op_of : ℕ → Option Op
op_of n = if n == 0 then Some op.Read else if n == 1 then Some op.Write else None

-- a read asks for so many bytes at most
abbrev pub most_room : ℕ
most_room = 4096

-- By the function. The vendor flags and the atomic length have no meaning. The bytes of a write stand behind its handle; no body
-- has more than 4,096 of them.
abbrev pub asks_by : Option Function → List ℕ → Option Call
asks_by None args = None
asks_by (Some Discover) args = of_length 0 args call.Discover
asks_by (Some Begin) args = of_length 8 args (call.Begin (num_at 4 args 4))
asks_by (Some End) args = of_length 0 args call.End
asks_by (Some Cancel) args = of_length 0 args call.Cancel
asks_by (Some Open) args = if length args == 20 then option_map (open_call (take 16 args)) (op_of (num_at 4 args 16)) else None
asks_by (Some WriteStream) args = if nat_le 4 (length args) then Some (call.Write (num_at 4 args 0) (drop 4 args)) else None
asks_by (Some ReadStream) args =
    if (length args == 8) && nat_le (num_at 4 args 4) most_room then Some (call.Read (num_at 4 args 0) (num_at 4 args 4)) else None
asks_by (Some Commit) args = of_length 12 args (call.Commit (num_at 4 args 0) (num_at 4 args 4))
asks_by (Some Accept) args = of_length 16 args (call.Accepts args)
asks_by (Some SelectPrevious) args = of_length 0 args call.Previous

-- a message is the number of a function, and its arguments
unfoldable pub asks : List ℕ → Option Call
asks message = asks_by (function_of (num_at 4 message 0)) (drop 4 message)

-- ---- the calls of the code

abbrev pub shown : AgentCall → Call
shown wire.Discover = call.Discover
shown (wire.Begin flags count) = call.Begin count
shown wire.End = call.End
shown wire.Cancel = call.Cancel
shown (wire.Open guid op) = open_call guid op
shown (wire.Write handle bytes) = call.Write handle bytes.now
shown (wire.Read handle room) = call.Read handle room
shown (wire.Commit handle request atomic) = call.Commit handle request
shown (wire.Accept guid) = call.Accepts guid
shown wire.Previous = call.Previous

-- The numbers that have no meaning are those of the arguments too.
abbrev pub TellsUnused : List ℕ → AgentCall → Type 0
TellsUnused args (wire.Begin flags count) = flags ≡ num_at 4 args 0
TellsUnused args (wire.Commit handle request atomic) = atomic ≡ num_at 4 args 8
TellsUnused args other = Unit {0}

-- ---- calls and replies whose bytes fit into a frame

-- a read asks for no more bytes than a frame can have
abbrev pub AsksWithin : AgentCall → Type 0
AsksWithin (wire.Read handle room) = room ≤ most_room
AsksWithin other = Unit {0}

-- and got no more
abbrev pub FitsFrame : AgentReply → Type 0
FitsFrame (reply.Got total count) = count ≤ most_room
FitsFrame other = Unit {0}
