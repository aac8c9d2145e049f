-- How a serving ends.
use Rattle.std.specs.Prelude.{ℕ, Result, Ok, Err, ⊤}
use Rattle.fwu_model.specs.Reply.{Reply}
use Rattle.fwu_model.specs.Reply as reply
use Rattle.wire_frames.specs.declared.stream.FrameStop.{FrameStop}
use Rattle.wire_frames.specs.declared.stream.FrameStop.TheVariants as stop
use Rattle.serving.specs.declared.ends.ServeEnd.{ServeEnd}
use Rattle.serving.specs.declared.ends.ServeEnd.TheVariants as end

abbrev pub status_of : ServeEnd → ℕ
status_of end.End = 0
status_of end.ReadFailed = 2
status_of end.SinkFailed = 3
status_of end.FlashFault = 5
status_of (end.NotBooted why) = 6
status_of end.TooLong = 8
status_of end.NoMemory = 9
status_of end.BadFrame = 11
status_of end.PowerLost = 12

-- 0 while it goes on
abbrev pub status_after : Result (Unit {0}) ServeEnd → ℕ
status_after (Ok value) = 0
status_after (Err e) = status_of e

-- any end but that of the source between two frames
abbrev pub IsEarlyEnd : ServeEnd → Type 0
IsEarlyEnd end.End = ⊥
IsEarlyEnd other = ⊤

-- by a turn with this reply, or that it goes on. No turn of a serving reads a file
abbrev pub end_by : Reply → Result (Unit {0}) ServeEnd
end_by reply.Fault = Err end.FlashFault
end_by (reply.NotBooted why) = Err (end.NotBooted why)
end_by reply.Lost = Err end.PowerLost
end_by other = Ok tt

-- where no frame was read
abbrev pub end_of_stop : FrameStop → ServeEnd
end_of_stop stop.End = end.End
end_of_stop stop.Failed = end.ReadFailed
end_of_stop stop.TooLong = end.TooLong
end_of_stop stop.BadFrame = end.BadFrame
