-- The calls that requests ask for, and what is written for them.
use Rattle.std.specs.Prelude.{List, ℕ, IsFalse, ◌≡◌, ◌≤◌, ◌+◌, ◌-◌, ◌∷◌, ◌==◌, ◌&&◌, not, if◌then◌else◌, length, map, slice_index_or, []}
use Rattle.fwu_model.specs.Call as model
use Rattle.fwu_model.specs.{Causes.is_cut, Run.is_send, Reply.Turn}
use Rattle.script_text.specs.{Armable.IsArmable, Shown.HasBuffer, Shown.shown, declared.call.Call.Call}
use Rattle.fwu_wire.specs.{Calls.asks, Replies.message}
use Rattle.std.specs.{List.flat_map, Option.unwrap_or}
use Rattle.wire_frames.specs.Exchange.{LastAnswer}
use Rattle.wire_frames.specs.Frames.{frame, message_of, request_number_of, numbered}

-- the call of the turn that a request with this message makes
abbrev pub called : List ℕ → model.Call
called message = unwrap_or (asks message) model.NoCall

-- A read has its buffer, no file is read, and no loss of power is armed.
pub record IsServedCall (c : Call) : Type 0 where
  pub buffer : HasBuffer c
  pub unsent : IsFalse (is_send (shown c))
  pub uncut : IsFalse (is_cut (shown c))
  pub armable : IsArmable (shown c)

-- ---- by the numbers

-- the requests that act, behind the last number that did: repeats and ignored ones are taken out
abbrev pub acting : ℕ → List (List ℕ) → List (List ℕ)
acting last [] = []
acting last (body ∷ bodies) =
    let n = request_number_of body in
    if n == last + 1 then body ∷ acting n bodies else acting last bodies

-- the numbers of the frames that are written: of each request that acts, and again of each repeat
abbrev pub answered_numbers : ℕ → List (List ℕ) → List ℕ
answered_numbers last [] = []
answered_numbers last (body ∷ bodies) =
    let n = request_number_of body in
    if n == last + 1 then n ∷ answered_numbers n bodies
    else if (n == last) && not (n == 0) then n ∷ answered_numbers last bodies
    else answered_numbers last bodies

-- ---- the replies

-- the messages of the turns' replies
abbrev pub messages_of : List Turn → List (List ℕ)
messages_of turns = map (λ (t : Turn). message t.reply) turns

-- the frame of a reply, by its number
abbrev pub frame_of : List (List ℕ) → ℕ → List ℕ
frame_of messages n = frame (numbered n (slice_index_or messages (n - 1) []))

-- all that is written
abbrev pub all_frames : List (List ℕ) → List ℕ → List ℕ
all_frames messages numbers = flat_map (frame_of messages) numbers

-- ---- in one

-- the calls of the requests that act, in their order
abbrev pub calls_for : List (List ℕ) → List model.Call
calls_for bodies = map (λ (b : List ℕ). called (message_of b)) (acting 0 bodies)

-- These requests were answered: each that acts by its turn, and what is kept is the last one's frame.
pub record AnswersRequests (bodies : List (List ℕ)) (turns : List Turn) (a : LastAnswer) : Type 0 where
  pub calls_are : map (λ (t : Turn). t.call) turns ≡ calls_for bodies
  pub count : length turns ≡ a.last
  pub kept : 1 ≤ a.last → a.reply ≡ frame_of (messages_of turns) a.last
