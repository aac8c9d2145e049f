-- What holds of the two sides, whatever has happened, and that each request acts at most once.
use Rattle.std.proofs.Common.{◌≡◌, ◌⊎◌, ℕ, zero, suc, ◌+◌, ◌-◌, ◌<◌, ◌≤◌, Bool, true, false, not, ◌&&◌, ◌==◌, cond, List, [], ◌∷◌, ◌++◌, length, map, take, drop, Option, Some, None, refl, sym, ap, subst, ◌∙◌, inl, inr, arith, take-append-drop}
use Rattle.std.specs.Prelude.{⊤, nat_lt, nat_le, option_map}
use Rattle.std.specs.List.{slice_get}
use Rattle.std.proofs.lemmas.Bool.{and_parts, eqb-false, eqb-true, not-true, ltb-true, false≢true}
use Rattle.std.proofs.lemmas.Option.{same_Some, slice_get-map, slice_get_within}
use Rattle.std.proofs.lemmas.List.{append-nil, length_push, map-append, take-append-le}
use Rattle.wire_frames.specs.declared.exchange.Admission.{Admission}
use Rattle.wire_frames.specs.declared.exchange.Admission.TheVariants.{Acts, Repeats, Ignored}
use Rattle.wire_frames.specs.Frames.{body_of, frame, request_number_of, numbered}
use Rattle.wire_frames.specs.Exchange.{Asking, LastAnswer, admission, fits, may_ask}
use Rattle.wire_frames.specs.Events.{ActsAtMostOnce, Event, Asks, Again, Request_comes, Reply_comes, IsFrontOf, Pair, WireWorld, acts, asks, happens, reply_comes, request_comes, run, serves, start_world}
use Rattle.wire_frames.proofs.Numbers.{body-frame, number-numbered}
use Rattle.wire_frames.proofs.Places.{get-cases, get-keeps, get-seam, get-taken, take-next}

-- ---- what becomes of a request

-- what its number is then
abbrev pub Admits : ℕ → ℕ → Admission → Type 0
Admits last number Acts = number ≡ last + 1
Admits last number Repeats = (number ≡ last) × (1 ≤ last)
Admits last number Ignored = ⊤

pub admits : (last number : ℕ) → Admits last number (admission last number)
admits last number = first (number == last + 1) refl
  where
    second : (b : Bool) → ((number == last) && not (number == 0)) ≡ b → Admits last number (cond b Repeats Ignored)
    second false differs = tt
    second true is =
        let parts = and_parts (number == last) (not (number == 0)) is in
        let same = eqb-true number last parts.0 in
        let some = eqb-false number 0 (not-true (number == 0) parts.1) in
        (same, omega (arith, same, some))

    first : (b : Bool) → (number == last + 1) ≡ b → Admits last number (cond b Acts (cond ((number == last) && not (number == 0)) Repeats Ignored))
    first true is = eqb-true number (last + 1) is
    first false differs = second ((number == last) && not (number == 0)) refl

-- ---- what holds

-- a request that was asked, by its place
record WasAsked (asked : List (List ℕ)) (request : List ℕ) : Type 0 where
  place : ℕ
  at : slice_get asked place ≡ Some request

-- a frame is the reply to a request that acted
record WasAnswered (acted : List Pair) (bytes : List ℕ) : Type 0 where
  place : ℕ
  pair : Pair
  at : slice_get acted place ≡ Some pair
  is : bytes ≡ frame pair.reply

-- the requests were asked by their numbers, and the frame of the last one is kept while it is open
record AskedInOrder (client : Asking) (asked : List (List ℕ)) : Type 0 where
  few : client.last ≤ 4294967295
  count : length asked ≡ client.last
  numbers : (n : ℕ) (request : List ℕ) → slice_get asked n ≡ Some request → request_number_of request ≡ n + 1
  opened : client.is_open ≡ true → slice_get asked (client.last - 1) ≡ Some (body_of client.request)

-- the requests of pairs
abbrev requests_of : List Pair → List (List ℕ)
requests_of pairs = map (λ (p : Pair). p.request) pairs

-- the first of them acted, and have replies of their numbers, of which the last is kept
record ActedInOrder (server : LastAnswer) (asked : List (List ℕ)) (acted : List Pair) : Type 0 where
  first : requests_of acted ≡ take server.last asked
  long : length acted ≡ server.last
  behind : server.last ≤ length asked
  numbers : (n : ℕ) (p : Pair) → slice_get acted n ≡ Some p → request_number_of p.reply ≡ n + 1
  kept : 1 ≤ server.last → WasAnswered acted server.reply

-- the replies to the first of those were taken, for each request but the open one
record TookInOrder (client : Asking) (acted taken : List Pair) : Type 0 where
  first : taken ≡ take (length taken) acted
  few : length taken ≤ length acted
  opened : client.is_open ≡ true → length taken + 1 ≡ client.last
  idle : client.is_open ≡ false → length taken ≡ client.last

-- the request that was stopped is the one behind those that acted
record IsStopped (stopped asked : List (List ℕ)) (last : ℕ) : Type 0 where
  request : List ℕ
  one : stopped ≡ request ∷ []
  at : slice_get asked last ≡ Some request

record Holds (w : WireWorld) : Type 0 where
  asked : AskedInOrder w.client w.asked
  requests : (k : ℕ) (bytes : List ℕ) → slice_get w.requests k ≡ Some bytes → WasAsked w.asked (body_of bytes)
  acted : ActedInOrder w.server w.asked w.acted
  replies : (k : ℕ) (bytes : List ℕ) → slice_get w.replies k ≡ Some bytes → WasAnswered w.acted bytes
  took : TookInOrder w.client w.acted w.taken
  halted : (w.stopped ≡ []) ⊎ IsStopped w.stopped w.asked w.server.last
  quiet : w.gone ≡ false → w.stopped ≡ []

-- at first
starts : Holds start_world
starts = record {
  asked = record { few = omega arith; count = refl; numbers = λ n request is. absurd (cc); opened = λ is. absurd (false≢true is) };
  requests = λ k bytes is. absurd (cc);
  acted = record { first = refl; long = refl; behind = omega arith; numbers = λ n p is. absurd (cc); kept = λ some. absurd (omega (arith, some)) };
  replies = λ k bytes is. absurd (cc);
  took = record { first = refl; few = omega arith; opened = λ is. absurd (false≢true is); idle = λ is. refl };
  halted = inl refl;
  quiet = λ is. refl;
}

-- ---- lists that grow

-- what holds of each of a list, and of one more in front, holds of each
in-front : (P : List ℕ → Type 0) (x : List ℕ) (xs : List (List ℕ)) → P x → ((k : ℕ) (y : List ℕ) → slice_get xs k ≡ Some y → P y)
    → (k : ℕ) (y : List ℕ) → slice_get (x ∷ xs) k ≡ Some y → P y
in-front P x xs this others zero y is = subst P (same_Some x y is) this
in-front P x xs this others (suc k) y is = others k y is

-- numbers in turn go on so
numbers-more : {X : Type 0} (number : X → ℕ) (xs : List X) (x : X) → number x ≡ length xs + 1 → ((n : ℕ) (y : X) → slice_get xs n ≡ Some y → number y ≡ n + 1)
    → (n : ℕ) (y : X) → slice_get (xs ++ x ∷ []) n ≡ Some y → number y ≡ n + 1
numbers-more number xs x own others n y is = elim (get-cases xs x y n is) [
  | inl before ↦ others n y before
  | inr last ↦ ap number (sym last.1) ∙ own ∙ ap (λ (k : ℕ). k + 1) (sym last.0)
]

asked-still : (asked more : List (List ℕ)) (request : List ℕ) → WasAsked asked request → WasAsked (asked ++ more) request
asked-still asked more request r = record { place = r.place; at = get-keeps asked more r.place request r.at }

answered-still : (acted more : List Pair) (bytes : List ℕ) → WasAnswered acted bytes → WasAnswered (acted ++ more) bytes
answered-still acted more bytes r = record { place = r.place; pair = r.pair; at = get-keeps acted more r.place r.pair r.at; is = r.is }

-- ---- the client asks

module _ (w : WireWorld) (h : Holds w) where
  asks-on : (message : List ℕ) → may_ask w.client ≡ true → Holds (asks w message)
  asks-on message may =
      let parts = and_parts (not w.client.is_open) (nat_lt w.client.last 4294967295) may in
      let free : w.client.last < 4294967295 = ltb-true w.client.last 4294967295 parts.1 in
      let body : List ℕ = numbered (w.client.last + 1) message in
      let number : request_number_of body ≡ w.client.last + 1 = number-numbered (w.client.last + 1) message (omega (arith, free)) in
      let same : Some body ≡ Some (body_of (frame body)) = ap Some (sym (body-frame body)) in
      let count = h.asked.count in
      let more : length (w.asked ++ body ∷ []) ≡ w.client.last + 1 = length_push w.asked body ∙ ap (λ (n : ℕ). n + 1) count in
      let behind = h.acted.behind in
      record {
        asked = record {
          few = omega (arith, free);
          count = more;
          numbers = numbers-more request_number_of w.asked body (number ∙ ap (λ (n : ℕ). n + 1) (sym count)) h.asked.numbers;
          opened = λ is. get-seam w.asked body (w.client.last + 1 - 1) (omega (arith, count)) ∙ same;
        };
        requests = in-front (λ (b : List ℕ). WasAsked (w.asked ++ body ∷ []) (body_of b)) (frame body) w.requests
            (record { place = length w.asked; at = get-seam w.asked body (length w.asked) refl ∙ same })
            (λ k bytes is. asked-still w.asked (body ∷ []) (body_of bytes) (h.requests k bytes is));
        acted = record {
          first = h.acted.first ∙ sym (take-append-le w.server.last w.asked (body ∷ []) behind);
          long = h.acted.long;
          behind = omega (arith, more, behind, count);
          numbers = h.acted.numbers;
          kept = h.acted.kept;
        };
        replies = h.replies;
        took = record {
          first = h.took.first;
          few = h.took.few;
          opened = λ is. ap (λ (n : ℕ). n + 1) (h.took.idle (not-true w.client.is_open parts.0));
          idle = λ is. absurd (false≢true (sym is));
        };
        halted = halts body h.halted;
        quiet = h.quiet;
      }
    where
      halts : (body : List ℕ) → (w.stopped ≡ []) ⊎ IsStopped w.stopped w.asked w.server.last → (w.stopped ≡ []) ⊎ IsStopped w.stopped (w.asked ++ body ∷ []) w.server.last
      halts body (inl none) = inl none
      halts body (inr s) = inr (record { request = s.request; one = s.one; at = get-keeps w.asked (body ∷ []) w.server.last s.request s.at })

  again-on : w.client.is_open ≡ true → Holds (record w { requests = w.client.request ∷ w.requests })
  again-on waits = record {
    asked = h.asked;
    requests = in-front (λ (b : List ℕ). WasAsked w.asked (body_of b)) w.client.request w.requests
        (record { place = w.client.last - 1; at = h.asked.opened waits }) h.requests;
    acted = h.acted;
    replies = h.replies;
    took = h.took;
    halted = h.halted;
    quiet = h.quiet;
  }

  -- ---- a request comes

  -- the last reply is given again
  gives-on : 1 ≤ w.server.last → Holds (record w { replies = w.server.reply ∷ w.replies })
  gives-on some = record {
    asked = h.asked;
    requests = h.requests;
    acted = h.acted;
    replies = in-front (WasAnswered w.acted) w.server.reply w.replies (h.acted.kept some) h.replies;
    took = h.took;
    halted = h.halted;
    quiet = h.quiet;
  }

  -- the next request stands behind those that acted
  next-at : (request : List ℕ) → WasAsked w.asked request → request_number_of request ≡ w.server.last + 1 → slice_get w.asked w.server.last ≡ Some request
  next-at request r number =
      let place : r.place ≡ w.server.last = let n = h.asked.numbers r.place request r.at in omega (arith, n, number) in
      ap (slice_get w.asked) (sym place) ∙ r.at

  -- the flash stops it
  stops-on : (request : List ℕ) → WasAsked w.asked request → request_number_of request ≡ w.server.last + 1 → Holds (record w { gone = true; stopped = request ∷ [] })
  stops-on request r number = record {
    asked = h.asked;
    requests = h.requests;
    acted = h.acted;
    replies = h.replies;
    took = h.took;
    halted = inr (record { request = request; one = refl; at = next-at request r number });
    quiet = λ is. absurd (false≢true (sym is));
  }

  -- It acts. Nothing was stopped so far.
  acts-on : (request reply : List ℕ) → WasAsked w.asked request → request_number_of request ≡ w.server.last + 1 → request_number_of reply ≡ request_number_of request → w.stopped ≡ []
      → Holds (record w {
        server = record { last = request_number_of request; reply = frame reply };
        replies = frame reply ∷ w.replies;
        acted = w.acted ++ record { request = request; reply = reply } ∷ [];
      })
  acts-on request reply r number own none =
      let at = next-at request r number in
      let within = slice_get_within w.asked w.server.last request at in
      let pair : Pair = record { request = request; reply = reply } in
      let long = h.acted.long in
      let more : length (w.acted ++ pair ∷ []) ≡ w.server.last + 1 = length_push w.acted pair ∙ ap (λ (n : ℕ). n + 1) long in
      let few = h.took.few in
      let this : WasAnswered (w.acted ++ pair ∷ []) (frame reply) = record {
        place = w.server.last;
        pair = pair;
        at = get-seam w.acted pair w.server.last (sym long);
        is = refl;
      } in
      record {
        asked = h.asked;
        requests = h.requests;
        acted = record {
          first = map-append (λ (p : Pair). p.request) w.acted (pair ∷ []) ∙ ap (λ (l : List (List ℕ)). l ++ request ∷ []) h.acted.first
              ∙ take-next w.asked w.server.last request at ∙ ap (λ (n : ℕ). take n w.asked) (sym number);
          long = more ∙ sym number;
          behind = omega (arith, within, number);
          numbers = numbers-more (λ (p : Pair). request_number_of p.reply) w.acted pair (own ∙ number ∙ ap (λ (n : ℕ). n + 1) (sym long)) h.acted.numbers;
          kept = λ some. this;
        };
        replies = in-front (WasAnswered (w.acted ++ pair ∷ [])) (frame reply) w.replies this
            (λ k bytes is. answered-still w.acted (pair ∷ []) bytes (h.replies k bytes is));
        took = record {
          first = h.took.first ∙ sym (take-append-le (length w.taken) w.acted (pair ∷ []) few);
          few = omega (arith, few, more, long);
          opened = h.took.opened;
          idle = h.took.idle;
        };
        halted = inl none;
        quiet = λ is. none;
      }

  -- by its number
  serves-on : (request : List ℕ) (message : Option (List ℕ)) → WasAsked w.asked request → Holds (serves (admission w.server.last (request_number_of request)) w request message)
  serves-on request message r = by (admission w.server.last (request_number_of request)) (admits w.server.last (request_number_of request))
    where
      act : (gone : Bool) (given : Option (List ℕ)) → w.gone ≡ gone → request_number_of request ≡ w.server.last + 1 → Holds (cond gone w (acts w request given))
      act true given is next = h
      act false None is next = stops-on request r next
      act false (Some bytes) is next =
          let within = slice_get_within w.asked w.server.last request (next-at request r next) in
          let few = h.asked.few in
          let count = h.asked.count in
          acts-on request (numbered (request_number_of request) bytes) r next (number-numbered (request_number_of request) bytes (omega (arith, next, within, few, count))) (h.quiet is)

      by : (a : Admission) → Admits w.server.last (request_number_of request) a → Holds (serves a w request message)
      by Acts next = act w.gone message refl next
      by Repeats same = gives-on same.1
      by Ignored _ = h

  request-on : (which : ℕ) (found : Option (List ℕ)) (message : Option (List ℕ)) → slice_get w.requests which ≡ found → Holds (request_comes w found message)
  request-on which None message is = h
  request-on which (Some bytes) message is = serves-on (body_of bytes) message (h.requests which bytes is)

  -- ---- a reply comes

  -- it is that of the open request
  closes-on : (bytes : List ℕ) → WasAnswered w.acted bytes → w.client.is_open ≡ true → request_number_of (body_of bytes) ≡ w.client.last
      → Holds (record w { client = record w.client { is_open = false }; taken = w.taken ++ record { request = body_of w.client.request; reply = body_of bytes } ∷ [] })
  closes-on bytes r waits number =
      let reply_is : body_of bytes ≡ r.pair.reply = ap body_of r.is ∙ body-frame r.pair.reply in
      let own = h.acted.numbers r.place r.pair r.at in
      let place : r.place + 1 ≡ w.client.last = sym own ∙ ap request_number_of (sym reply_is) ∙ number in
      let behind = h.took.opened waits in
      let at_taken : r.place ≡ length w.taken = omega (arith, place, behind) in
      let asked_at : slice_get w.asked r.place ≡ Some r.pair.request =
      get-taken w.asked w.server.last r.place r.pair.request
      (ap (λ (l : List (List ℕ)). slice_get l r.place) (sym h.acted.first) ∙ slice_get-map (λ (p : Pair). p.request) w.acted r.place ∙ ap (option_map (λ (p : Pair). p.request)) r.at) in
      let last_at : r.place ≡ w.client.last - 1 = omega (arith, place) in
      let request_is : r.pair.request ≡ body_of w.client.request =
      same_Some r.pair.request (body_of w.client.request) (sym asked_at ∙ ap (slice_get w.asked) last_at ∙ h.asked.opened waits) in
      let pair : Pair = record { request = body_of w.client.request; reply = body_of bytes } in
      let pair_is : r.pair ≡ pair = ap (λ (q : List ℕ). record { request = q; reply = r.pair.reply }) request_is
      ∙ ap (λ (q : List ℕ). record { request = body_of w.client.request; reply = q }) (sym reply_is) in
      let at : slice_get w.acted (length w.taken) ≡ Some pair = ap (slice_get w.acted) (sym at_taken) ∙ r.at ∙ ap Some pair_is in
      let within = slice_get_within w.acted (length w.taken) pair at in
      let more : length (w.taken ++ pair ∷ []) ≡ length w.taken + 1 = length_push w.taken pair in
      record {
        asked = record { few = h.asked.few; count = h.asked.count; numbers = h.asked.numbers; opened = λ is. absurd (false≢true is) };
        requests = h.requests;
        acted = h.acted;
        replies = h.replies;
        took = record {
          first = ap (λ (l : List Pair). l ++ pair ∷ []) h.took.first ∙ take-next w.acted (length w.taken) pair at ∙ ap (λ (n : ℕ). take n w.acted) (sym more);
          few = omega (arith, within, more);
          opened = λ is. absurd (false≢true is);
          idle = λ is. more ∙ behind;
        };
        halted = h.halted;
        quiet = h.quiet;
      }

  reply-on : (which : ℕ) (found : Option (List ℕ)) → slice_get w.replies which ≡ found → Holds (reply_comes w found)
  reply-on which None is = h
  reply-on which (Some bytes) is = by (fits w.client (body_of bytes)) refl
    where
      more : List Pair
      more = w.taken ++ record { request = body_of w.client.request; reply = body_of bytes } ∷ []

      by : (b : Bool) → fits w.client (body_of bytes) ≡ b → Holds (record w { client = cond b (record w.client { is_open = false }) w.client; taken = cond b more w.taken })
      by true fit =
          let parts = and_parts w.client.is_open (nat_le 4 (length (body_of bytes)) && (request_number_of (body_of bytes) == w.client.last)) fit in
          let later = and_parts (nat_le 4 (length (body_of bytes))) (request_number_of (body_of bytes) == w.client.last) parts.1 in
          closes-on bytes (h.replies which bytes is) parts.0 (eqb-true (request_number_of (body_of bytes)) w.client.last later.1)
      by false differs = h

  -- ---- all that may happen

  happens-on : (e : Event) → Holds (happens w e)
  happens-on (Asks message) = by (may_ask w.client) refl
    where
      by : (b : Bool) → may_ask w.client ≡ b → Holds (cond b (asks w message) w)
      by true may = asks-on message may
      by false not_now = h
  happens-on Again = by w.client.is_open refl
    where
      by : (b : Bool) → w.client.is_open ≡ b → Holds (cond b (record w { requests = w.client.request ∷ w.requests }) w)
      by true waits = again-on waits
      by false idle = h
  happens-on (Request_comes which message) = request-on which (slice_get w.requests which) message refl
  happens-on (Reply_comes which) = reply-on which (slice_get w.replies which) refl

  -- ---- what follows

  so : ActsAtMostOnce w
  so = record {
    numbers = h.asked.numbers;
    once = once h.halted;
    own = (drop (length w.taken) w.acted, ap (λ (l : List Pair). l ++ drop (length w.taken) w.acted) h.took.first ∙ take-append-drop (length w.taken) w.acted);
    in_turn = turn w.client.is_open refl;
  }
    where
      once : ((w.stopped ≡ []) ⊎ IsStopped w.stopped w.asked w.server.last) → IsFrontOf (requests_of w.acted ++ w.stopped) w.asked
      once (inl none) = (
        drop w.server.last w.asked,
        ap (λ (l : List (List ℕ)). (requests_of w.acted ++ l) ++ drop w.server.last w.asked) none
            ∙ ap (λ (l : List (List ℕ)). l ++ drop w.server.last w.asked) (append-nil (requests_of w.acted) ∙ h.acted.first)
            ∙ take-append-drop w.server.last w.asked,
      )
      once (inr s) = (
        drop (w.server.last + 1) w.asked,
        ap (λ (l : List (List ℕ)). (requests_of w.acted ++ l) ++ drop (w.server.last + 1) w.asked) s.one
            ∙ ap (λ (l : List (List ℕ)). (l ++ s.request ∷ []) ++ drop (w.server.last + 1) w.asked) h.acted.first
            ∙ ap (λ (l : List (List ℕ)). l ++ drop (w.server.last + 1) w.asked) (take-next w.asked w.server.last s.request s.at)
            ∙ take-append-drop (w.server.last + 1) w.asked,
      )

      turn : (b : Bool) → w.client.is_open ≡ b → length w.asked ≤ length w.taken + 1
      turn true waits = let b = h.took.opened waits in let c = h.asked.count in omega (arith, b, c)
      turn false idle = let b = h.took.idle idle in let c = h.asked.count in omega (arith, b, c)

runs-on : (events : List Event) (w : WireWorld) → Holds w → Holds (run events w)
runs-on [] w h = h
runs-on (e ∷ events) w h = runs-on events (happens w e) (happens-on w h e)

pub at-most-once : (events : List Event) → ActsAtMostOnce (run events start_world)
at-most-once events = so (run events start_world) (runs-on events start_world starts)
