-- What a request does that acts.
use Rattle.std.specs.Prelude.{◌≡◌, ℕ, List, ◌∷◌, ◌++◌, Result, Ok, Err, IsFalse, take, []}
use Rattle.fwu_model.specs.{Call.Call, Causes.is_cut, Reply.Turn, Run.is_send}
use Rattle.fwu_wire.specs.Replies.{message}
use Rattle.script_turns.specs.{Powered.FitsMachine, Turning.Turns}
use Rattle.host_io.specs.Printed.{Prints}
use Rattle.wire_frames.specs.{declared.exchange.Admission.Admission, Exchange.admission}
use Rattle.wire_frames.specs.declared.exchange.Admission.TheVariants.{Acts, Repeats, Ignored}
use Rattle.wire_frames.specs.Frames.{frame, message_of, request_number_of, numbered}
use Rattle.serving.specs.{Ends.end_by, Ends.status_after, declared.ends.ServeEnd.ServeEnd, Written.called}
use Rattle.serving.specs.Scene.{RunAt, Scene, At, Port}
use Rattle.serving.specs.declared.ends.ServeEnd.TheVariants as end

-- One turn was done, and is kept. It reads no file, no call of the files fails, and no loss of power is armed.
pub record OneTurn (E : Scene) (c : Call) (t : Turn) (old new : RunAt) : Type 0 where
  pub turns : Turns E.passes E.tells E.files c t old.moment new.moment E.faults E.faults
  pub fits : FitsMachine E.tells new.moment
  pub unsent : IsFalse (is_send c)
  pub uncut : IsFalse (is_cut c)
  pub kept : new.journal ≡ old.journal ++ t ∷ []

-- the turn of a request after which the serving goes on, and the message of its reply
pub record OneReply (E : Scene) (c : Call) (bytes : List ℕ) (old new : RunAt) : Type 0 where
  pub turn : Turn
  pub one : OneTurn E c turn old new
  pub goes : end_by turn.reply ≡ Ok tt
  pub bytes_are : bytes ≡ message turn.reply

-- Why there is none: memory was wanting and nothing was done, or the turn ends the serving.
pub data OneStop (E : Scene) (c : Call) (e : ServeEnd) (old new : RunAt) : Type 0 where
  starved : e ≡ end.NoMemory → new ≡ old → OneStop E c e old new
  ended : (t : Turn) → OneTurn E c t old new → end_by t.reply ≡ Err e → OneStop E c e old new

-- the message that stands at the front, or why there is none
abbrev pub ActsOn : Scene → Call → RunAt → RunAt → List ℕ → Result ℕ ServeEnd → Type 0
ActsOn E c old new out (Ok n) = OneReply E c (take n out) old new
ActsOn E c old new out (Err e) = OneStop E c e old new

-- ---- a serving, one request on

-- A frame was put into the sink, or a front of it where the sink failed, or nothing where it found no memory.
abbrev pub Puts : List ℕ → Result (Unit {0}) ServeEnd → Port → Port → Type 0
Puts piece result old new = Prints piece 0 (status_after result) old.bytes new.bytes old.faults new.faults

-- A request that acts: its reply is kept, and put into the sink; or there is none, and nothing is.
pub data ServesNew (E : Scene) (number : ℕ) (c : Call) (old new : At) (result : Result (Unit {0}) ServeEnd) : Type 0 where
  answered : (bytes : List ℕ) → OneReply E c bytes old.run new.run
      → new.exchange ≡ record { last = number; reply = frame (numbered number bytes) }
      → Puts (frame (numbered number bytes)) result old.sink new.sink
      → ServesNew E number c old new result
  stopped : (e : ServeEnd) → OneStop E c e old.run new.run → result ≡ Err e → new.exchange ≡ old.exchange → new.sink ≡ old.sink
      → ServesNew E number c old new result

-- A repeat makes no turn: the frame that is kept is put into the sink.
pub record ServesAgain (old new : At) (result : Result (Unit {0}) ServeEnd) : Type 0 where
  pub run : new.run ≡ old.run
  pub exchange : new.exchange ≡ old.exchange
  pub puts : Puts old.exchange.reply result old.sink new.sink

-- a request, by what becomes of it
abbrev pub ServesBy : Admission → Scene → List ℕ → At → At → Result (Unit {0}) ServeEnd → Type 0
ServesBy Acts E body old new result = ServesNew E (request_number_of body) (called (message_of body)) old new result
ServesBy Repeats E body old new result = ServesAgain old new result
ServesBy Ignored E body old new result = (new ≡ old) × (result ≡ Ok tt)

abbrev pub ServesOne : Scene → List ℕ → At → At → Result (Unit {0}) ServeEnd → Type 0
ServesOne E body old new result = ServesBy (admission old.exchange.last (request_number_of body)) E body old new result
