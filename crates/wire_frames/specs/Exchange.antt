-- The two sides, by the numbers of the requests.
use Rattle.std.specs.Prelude.{◌≡◌, ℕ, ◌+◌, Bool, true, false, not, ◌==◌, nat_lt, nat_le, ◌&&◌, if◌then◌else◌, List, [], length, IsTrue, IsFalse}
use Rattle.wire_frames.specs.{declared.client.Asked.Asked, declared.exchange.Admission.Admission}
use Rattle.wire_frames.specs.declared.client.Asked.TheVariants.{Frame, Waiting}
use Rattle.wire_frames.specs.declared.exchange.Admission.TheVariants.{Acts, Repeats, Ignored}
use Rattle.wire_frames.specs.Frames.{frame, request_number_of, numbered, PutsFront}

-- ---- the side that answers

-- the number of the last request that acted, and the frame of its reply. At first that is 0, and no frame
pub record LastAnswer : Type 0 where
  pub last : ℕ
  pub reply : List ℕ

abbrev pub none_yet : LastAnswer
none_yet = record { last = 0; reply = [] }

-- The next number acts. The last one again, above 0, gets its reply again. Any other is passed over.
abbrev pub admission : ℕ → ℕ → Admission
admission last number =
    if number == last + 1 then Acts
    else if (number == last) && not (number == 0) then Repeats
    else Ignored

-- ---- the side that asks

-- the number of the last request, whether it is open, and its frame. At first that is 0, none, and no frame
pub record Asking : Type 0 where
  pub last : ℕ
  pub is_open : Bool
  pub request : List ℕ

abbrev pub asked_none : Asking
asked_none = record { last = 0; is_open = false; request = [] }

-- none is open, and there is a number for the next: they end at 4294967295
abbrev pub may_ask : Asking → Bool
may_ask a = not a.is_open && nat_lt a.last 4294967295

-- after asking with this message, by the next number
abbrev pub with_request : Asking → List ℕ → Asking
with_request a message = record { last = a.last + 1; is_open = true; request = frame (numbered (a.last + 1) message) }

-- a reply is that of the open request
abbrev pub fits : Asking → List ℕ → Bool
fits a reply = a.is_open && (nat_le 4 (length reply) && (request_number_of reply == a.last))

-- after a reply, which closes the open request where it fits
abbrev pub closed : Asking → List ℕ → Asking
closed a reply = if fits a reply then record a { is_open = false } else a

-- What an asking does: the frame is kept, and written to the front; or nothing changes.
abbrev pub AsksFrame : Asked → Asking → Asking → List ℕ → List ℕ → List ℕ → Type 0
AsksFrame (Frame size) old new message before after =
    IsTrue (may_ask old) × (new ≡ with_request old message) × PutsFront size new.request before after
AsksFrame Waiting old new message before after = IsFalse (may_ask old) × (new ≡ old) × (after ≡ before)
