-- The two sides and what is on the way between them, over whatever may happen within one power cycle.
use Rattle.std.specs.Prelude.{◌≡◌, ℕ, ◌+◌, ◌≤◌, Bool, true, false, if◌then◌else◌, List, [], ◌∷◌, ◌++◌, length, map, Option, Some, None, slice_get}
use Rattle.wire_frames.specs.declared.exchange.Admission.{Admission}
use Rattle.wire_frames.specs.declared.exchange.Admission.TheVariants.{Acts, Repeats, Ignored}
use Rattle.wire_frames.specs.Frames.{body_of, frame, request_number_of, numbered}
use Rattle.wire_frames.specs.Exchange.{Asking, LastAnswer, admission, asked_none, closed, fits, may_ask, none_yet, with_request}

-- a request and a reply, as bodies of frames
pub record Pair : Type 0 where
  pub request : List ℕ
  pub reply : List ℕ

pub record WireWorld : Type 0 where
  -- the side that asks, and the one that answers
  pub client : Asking
  pub server : LastAnswer
  -- whether the flash stopped a request: then no other acts
  pub gone : Bool
  -- every frame that was ever sent, of which any may come, again and in any order
  pub requests : List (List ℕ)
  pub replies : List (List ℕ)
  -- what was asked, one after the other
  pub asked : List (List ℕ)
  -- the requests that acted, with their replies, and the one that the flash stopped
  pub acted : List Pair
  pub stopped : List (List ℕ)
  -- the replies that the client took, with the requests that they closed
  pub taken : List Pair

abbrev pub start_world : WireWorld
start_world =
    record { client = asked_none; server = none_yet; gone = false; requests = []; replies = []; asked = []; acted = []; stopped = []; taken = [] }

-- What may happen next. A loss is a frame that never comes.
pub data Event : Type 0 where
  -- the client asks with this message
  Asks : (message : List ℕ) → Event
  -- it sends the open request again
  Again : Event
  -- A request comes to the server. Where it acts, this is the message of its reply, or the flash stops it.
  Request_comes : (which : ℕ) → (message : Option (List ℕ)) → Event
  -- a reply comes to the client
  Reply_comes : (which : ℕ) → Event

-- the client asks, by the next number
abbrev pub asks : WireWorld → List ℕ → WireWorld
asks w message =
    let body = numbered (w.client.last + 1) message in
    record w { client = with_request w.client message; requests = frame body ∷ w.requests; asked = w.asked ++ body ∷ [] }

-- ---- a request comes

-- It acts, and is answered with this message, and the frame of its reply is kept. Or the flash stops it.
abbrev pub acts : WireWorld → List ℕ → Option (List ℕ) → WireWorld
acts w request None = record w { gone = true; stopped = request ∷ [] }
acts w request (Some message) =
    let reply = numbered (request_number_of request) message in
    record w {
      server = record { last = request_number_of request; reply = frame reply };
      replies = frame reply ∷ w.replies;
      acted = w.acted ++ record { request = request; reply = reply } ∷ [];
    }

-- By what becomes of it. Once the flash stopped a request, no other acts. The last reply may still be given again.
abbrev pub serves : Admission → WireWorld → List ℕ → Option (List ℕ) → WireWorld
serves Acts w request message = if w.gone then w else acts w request message
serves Repeats w request message = record w { replies = w.server.reply ∷ w.replies }
serves Ignored w request message = w

abbrev pub request_comes : WireWorld → Option (List ℕ) → Option (List ℕ) → WireWorld
request_comes w None message = w
request_comes w (Some bytes) message =
    serves (admission w.server.last (request_number_of (body_of bytes))) w (body_of bytes) message

-- ---- a reply comes

abbrev pub reply_comes : WireWorld → Option (List ℕ) → WireWorld
reply_comes w None = w
reply_comes w (Some bytes) =
    let pair : Pair = record { request = body_of w.client.request; reply = body_of bytes } in
    record w {
      client = closed w.client (body_of bytes);
      taken = if fits w.client (body_of bytes) then w.taken ++ pair ∷ [] else w.taken;
    }

-- ---- all that may happen

abbrev pub happens : WireWorld → Event → WireWorld
happens w (Asks message) = if may_ask w.client then asks w message else w
happens w Again = if w.client.is_open then record w { requests = w.client.request ∷ w.requests } else w
happens w (Request_comes which message) = request_comes w (slice_get w.requests which) message
happens w (Reply_comes which) = reply_comes w (slice_get w.replies which)

abbrev pub run : List Event → WireWorld → WireWorld
run [] w = w
run (e ∷ events) w = run events (happens w e)

-- ---- the law

abbrev pub IsFrontOf : {X : Type 0} → List X → List X → Type 0
IsFrontOf {X} xs ys = (rest : List X) × (xs ++ rest ≡ ys)

-- Whatever is lost, repeated or comes out of order, and whenever the flash stops a request:
pub record ActsAtMostOnce (w : WireWorld) : Type 0 where
  -- the requests are numbered from 1 on, so that no two are one
  pub numbers : (n : ℕ) (request : List ℕ) → slice_get w.asked n ≡ Some request → request_number_of request ≡ n + 1
  -- those that acted, and the one that was stopped, are the first that were asked, each once and in this order
  pub once : IsFrontOf (map (λ (p : Pair). p.request) w.acted ++ w.stopped) w.asked
  -- and the replies that were taken are those of the first of them, each with its own request
  pub own : IsFrontOf w.taken w.acted
  -- no request is asked before the reply to the last one was taken
  pub in_turn : length w.asked ≤ length w.taken + 1
