-- The requests of a source, one more of them, and all so far.
use Rattle.std.proofs.Common.{◌≡◌, ℕ, ◌+◌, ◌-◌, ◌≤◌, Bool, true, false, not, ◌&&◌, ◌==◌, cond, IsTrue, List, ◌∷◌, ◌++◌, length, map, suc, get_or, refl, sym, ap, subst, ◌∙◌, arith, append_assoc, append-nil, [], Ok, Result, None, Err, length-append, All}
use Rattle.std.proofs.lemmas.Bool.{and_parts, eqb-false, eqb-true, not-true}
use Rattle.std.proofs.lemmas.List.{get_or_append_left, get_or_push, length_push, length-map, map_push}
use Rattle.std.proofs.lemmas.List.{Concat.flat_map-append, Elements.All-nil, Elements.All-push}
use Rattle.std.proofs.KnownBytes.{Appends-trans, Consumes-nil, Consumes-trans}
use Rattle.wire_frames.specs.{declared.exchange.Admission.Admission, declared.stream.FrameStop.FrameStop}
use Rattle.wire_frames.specs.Exchange.{admission, LastAnswer}
use Rattle.wire_frames.specs.Frames.{AreBodies, IsBody, frame, frames, request_number_of, numbered, message_of}
use Rattle.wire_frames.specs.Stream.{ReadsFrame, StopsReading, most_bytes, stop_faults}
use Rattle.wire_frames.proofs.Once.{Admits, admits}
use Rattle.fwu_model.specs.{Reply.Turn, Call.Call, Run.ends_run}
use Rattle.fwu_wire.specs.Replies.{message}
use Rattle.std.specs.{List.list_any, Io.KnownBytes.Appends, Io.KnownBytes.Consumes}
use Rattle.script_turns.specs.Powered.{TurnMoment}
use Rattle.wire_frames.specs.declared.exchange.Admission.TheVariants.{Acts, Repeats, Ignored}
use Rattle.serving.specs.Written.{acting, answered_numbers, frame_of, messages_of, all_frames, called, AnswersRequests}
use Rattle.serving.specs.Serving.{OneReply, ServesAgain, ServesBy, ServesNew, ServesOne, answered, stopped}
use Rattle.serving.specs.{Going.ServesRequests, Going.GoesOn, Going.ServeEnds, Scene.At, Scene.RunAt, Scene.Scene, Scene.Port}
use Rattle.serving.specs.{declared.ends.ServeEnd.ServeEnd, Ends.IsEarlyEnd, Ends.end_of_stop}
use Rattle.serving.proofs.Starts.{Goes, Stands, any-more, goes-none, put-all, stands-on, stands-still}

-- ---- what is done for requests, with one request more

-- the last number that acted, behind these
abbrev last_after : ℕ → List (List ℕ) → ℕ
last_after last bodies = last + length (acting last bodies)

-- behind one that acts it goes on from its number
last-acts : (last number : ℕ) (bodies : List (List ℕ)) → IsTrue (number == last + 1) → last_after number bodies ≡ last + suc (length (acting number bodies))
last-acts last number bodies is = let next = eqb-true number (last + 1) is in omega (arith, next)

pub acting-more : (last : ℕ) (bodies : List (List ℕ)) (body : List ℕ) → acting last (bodies ++ body ∷ []) ≡ acting last bodies ++ acting (last_after last bodies) (body ∷ [])
acting-more last [] body = let none : last ≡ last + 0 = omega arith in ap (λ (k : ℕ). acting k (body ∷ [])) none
acting-more last (b ∷ bodies) body = by (request_number_of b) (request_number_of b == last + 1) refl (λ at. acting-more at bodies body)
  where
    by : (n : ℕ) (x : Bool) → (n == last + 1) ≡ x → ((at : ℕ) → acting at (bodies ++ body ∷ []) ≡ acting at bodies ++ acting (last_after at bodies) (body ∷ []))
        → cond x (b ∷ acting n (bodies ++ body ∷ [])) (acting last (bodies ++ body ∷ []))
        ≡ cond x (b ∷ acting n bodies) (acting last bodies) ++ acting (last + length (cond x (b ∷ acting n bodies) (acting last bodies))) (body ∷ [])
    by n true is rest = ap (λ (l : List (List ℕ)). b ∷ l) (rest n ∙ ap (λ (k : ℕ). acting n bodies ++ acting k (body ∷ [])) (last-acts last n bodies is))
    by n false is rest = rest last

answered-more : (last : ℕ) (bodies : List (List ℕ)) (body : List ℕ)
    → answered_numbers last (bodies ++ body ∷ []) ≡ answered_numbers last bodies ++ answered_numbers (last_after last bodies) (body ∷ [])
answered-more last [] body = let none : last ≡ last + 0 = omega arith in ap (λ (k : ℕ). answered_numbers k (body ∷ [])) none
answered-more last (b ∷ bodies) body = by (request_number_of b) (request_number_of b == last + 1) refl ((request_number_of b == last) && not (request_number_of b == 0)) (λ at. answered-more at bodies body)
  where
    by : (n : ℕ) (x : Bool) → (n == last + 1) ≡ x → (y : Bool)
        → ((at : ℕ) → answered_numbers at (bodies ++ body ∷ []) ≡ answered_numbers at bodies ++ answered_numbers (last_after at bodies) (body ∷ []))
        → cond x (n ∷ answered_numbers n (bodies ++ body ∷ [])) (cond y (n ∷ answered_numbers last (bodies ++ body ∷ [])) (answered_numbers last (bodies ++ body ∷ [])))
        ≡ cond x (n ∷ answered_numbers n bodies) (cond y (n ∷ answered_numbers last bodies) (answered_numbers last bodies))
        ++ answered_numbers (last + length (cond x (b ∷ acting n bodies) (acting last bodies))) (body ∷ [])
    by n true is y rest = ap (λ (l : List ℕ). n ∷ l) (rest n ∙ ap (λ (k : ℕ). answered_numbers n bodies ++ answered_numbers k (body ∷ [])) (last-acts last n bodies is))
    by n false is true rest = ap (λ (l : List ℕ). n ∷ l) (rest last)
    by n false is false rest = rest last

-- each number that is answered is one of the first numbers
unfoldable pub Within : ℕ → List ℕ → Type 0
Within k [] = Unit {0}
Within k (n ∷ ns) = (1 ≤ n) × (n ≤ k) × Within k ns

answered-within : (last : ℕ) (bodies : List (List ℕ)) → Within (last_after last bodies) (answered_numbers last bodies)
unfolding Within
answered-within last [] = tt
answered-within last (b ∷ bodies) = by (request_number_of b) (request_number_of b == last + 1) refl ((request_number_of b == last) && not (request_number_of b == 0)) refl (λ at. answered-within at bodies)
  where
    by : (n : ℕ) (x : Bool) → (n == last + 1) ≡ x → (y : Bool) → ((n == last) && not (n == 0)) ≡ y → ((at : ℕ) → Within (last_after at bodies) (answered_numbers at bodies))
        → Within (last + length (cond x (b ∷ acting n bodies) (acting last bodies))) (cond x (n ∷ answered_numbers n bodies) (cond y (n ∷ answered_numbers last bodies) (answered_numbers last bodies)))
    by n true is y again rest =
        let next = eqb-true n (last + 1) is in (omega (arith, next), omega (arith, next), subst (λ (k : ℕ). Within k (answered_numbers n bodies)) (last-acts last n bodies is) (rest n))
    by n false is true again rest =
        let parts = and_parts (n == last) (not (n == 0)) again in
        let same = eqb-true n last parts.0 in
        let some = eqb-false n 0 (not-true (n == 0) parts.1) in (omega (arith, some), omega (arith, same), rest last)
    by n false is false again rest = rest last

-- what one request adds, by what becomes of it
abbrev Adds : List ℕ → Admission → List (List ℕ) → List ℕ → Type 0
Adds body Acts acts numbers = (acts ≡ body ∷ []) × (numbers ≡ request_number_of body ∷ [])
Adds body Repeats acts numbers = (acts ≡ []) × (numbers ≡ request_number_of body ∷ [])
Adds body Ignored acts numbers = (acts ≡ []) × (numbers ≡ [])

adds : (last : ℕ) (body : List ℕ) → Adds body (admission last (request_number_of body)) (acting last (body ∷ [])) (answered_numbers last (body ∷ []))
adds last body = by (request_number_of body == last + 1) ((request_number_of body == last) && not (request_number_of body == 0))
  where
    by : (x y : Bool) → Adds body (cond x Acts (cond y Repeats Ignored)) (cond x (body ∷ []) []) (cond x (request_number_of body ∷ []) (cond y (request_number_of body ∷ []) []))
    by true y = (refl, refl)
    by false true = (refl, refl)
    by false false = (refl, refl)

-- ---- the frames

-- a reply more doesn't change those before
pub written-more : (messages : List (List ℕ)) (m : List ℕ) (numbers : List ℕ) → Within (length messages) numbers → all_frames (messages ++ m ∷ []) numbers ≡ all_frames messages numbers
unfolding Within
written-more messages m [] within = refl
written-more messages m (n ∷ numbers) within =
    let some = within.0 in
    let few = within.1 in
    let same : get_or (messages ++ m ∷ []) (n - 1) [] ≡ get_or messages (n - 1) [] = get_or_append_left messages (m ∷ []) [] (n - 1) (omega (arith, some, few)) in
    ap (λ (l : List ℕ). frame (numbered n l) ++ all_frames (messages ++ m ∷ []) numbers) same
    ∙ ap (λ (l : List ℕ). frame_of messages n ++ l) (written-more messages m numbers within.2)

-- the frame of the last one
pub frame-last : (messages : List (List ℕ)) (m : List ℕ) (n : ℕ) → n ≡ length messages + 1 → frame (numbered n m) ≡ frame_of (messages ++ m ∷ []) n
frame-last messages m n is = ap (λ (l : List ℕ). frame (numbered n l)) (sym (get_or_push messages m [] (n - 1) (omega (arith, is))))

pub written-at : (messages : List (List ℕ)) (numbers : List ℕ) (n : ℕ) → all_frames messages (numbers ++ n ∷ []) ≡ all_frames messages numbers ++ frame_of messages n
written-at messages numbers n = flat_map-append (frame_of messages) numbers (n ∷ []) ∙ ap (λ (l : List ℕ). all_frames messages numbers ++ l) (append-nil (frame_of messages n))

-- ---- the turns

pub length-messages : (turns : List Turn) → length (messages_of turns) ≡ length turns
length-messages turns = length-map turns (λ (t : Turn). message t.reply)

pub messages-more : (turns : List Turn) (t : Turn) → messages_of (turns ++ t ∷ []) ≡ messages_of turns ++ message t.reply ∷ []
messages-more turns t = map_push (λ (u : Turn). message u.reply) turns t

-- ---- a serving, one request on

-- the calls of requests that act
abbrev calls_of_acting : List (List ℕ) → List Call
calls_of_acting bodies = map (λ (b : List ℕ). called (message_of b)) bodies

pub stands-of : (E : Scene) (first : List Turn) (start : TurnMoment) (bodies : List (List ℕ)) (old now : At) → ServesRequests E first start bodies old now → Stands E first start now.run
stands-of E first start bodies old now was = record { turns = was.turns; journal_is = was.journal_is; ran = was.ran; uncut = was.uncut }

module _ (E : Scene) (first : List Turn) (start : TurnMoment) (off : start.on ≡ None) (bodies : List (List ℕ)) (body : List ℕ) (old mid new : At) (was : ServesRequests E first start bodies old mid) where
  last : mid.exchange.last ≡ last_after 0 bodies
  last =
      let is = sym was.answers.count ∙ sym (length-map was.turns (λ (t : Turn). t.call)) ∙ ap length was.answers.calls_are ∙ length-map (acting 0 bodies) (λ (b : List ℕ). called (message_of b)) in
      omega (arith, is)

  stood : Stands E first start mid.run
  stood = stands-of E first start bodies old mid was

  -- what it adds to the requests so far
  acting-as : (acts : List (List ℕ)) → acting mid.exchange.last (body ∷ []) ≡ acts → acting 0 (bodies ++ body ∷ []) ≡ acting 0 bodies ++ acts
  acting-as acts is = acting-more 0 bodies body ∙ ap (λ (k : ℕ). acting 0 bodies ++ acting k (body ∷ [])) (sym last) ∙ ap (λ (l : List (List ℕ)). acting 0 bodies ++ l) is

  numbers-as : (numbers : List ℕ) → answered_numbers mid.exchange.last (body ∷ []) ≡ numbers → answered_numbers 0 (bodies ++ body ∷ []) ≡ answered_numbers 0 bodies ++ numbers
  numbers-as numbers is = answered-more 0 bodies body ∙ ap (λ (k : ℕ). answered_numbers 0 bodies ++ answered_numbers k (body ∷ [])) (sym last) ∙ ap (λ (l : List ℕ). answered_numbers 0 bodies ++ l) is

  abbrev adds-as : Admission → Type 0
  adds-as a = Adds body a (acting mid.exchange.last (body ∷ [])) (answered_numbers mid.exchange.last (body ∷ []))

  -- it is ignored
  ignored-on : adds-as Ignored → new ≡ mid → ServesRequests E first start (bodies ++ body ∷ []) old new
  ignored-on is same = subst (λ (x : At). ServesRequests E first start (bodies ++ body ∷ []) old x) (sym same) (record {
    turns = was.turns;
    journal_is = was.journal_is;
    goes = was.goes;
    ran = was.ran;
    none = was.none;
    uncut = was.uncut;
    answers = record {
      calls_are = was.answers.calls_are ∙ ap calls_of_acting (sym (acting-as [] is.0 ∙ append-nil (acting 0 bodies)));
      count = was.answers.count;
      kept = was.answers.kept;
    };
    took = subst (λ (l : List ℕ). Appends old.sink.bytes mid.sink.bytes (all_frames (messages_of was.turns) l)) (sym (numbers-as [] is.1 ∙ append-nil (answered_numbers 0 bodies))) was.took;
    quiet = was.quiet;
  })

  -- its reply is given again
  repeats-on : adds-as Repeats → request_number_of body ≡ mid.exchange.last → 1 ≤ mid.exchange.last → (result : Result (Unit {0}) ServeEnd) → ServesAgain mid new result → result ≡ Ok tt
      → ServesRequests E first start (bodies ++ body ∷ []) old new
  repeats-on is same_number some result did goes =
      let put = put-all mid.exchange.reply result mid.sink new.sink did.puts goes in
      let stands = stands-still E first start mid.run new.run stood did.run in
      let same : new.run.journal ≡ mid.run.journal = ap (λ (run : RunAt). run.journal) did.run in
      let numbers = answered_numbers 0 bodies in
      let frame_is = was.answers.kept some ∙ ap (frame_of (messages_of was.turns)) (sym same_number) in
      let all_is : all_frames (messages_of was.turns) (answered_numbers 0 (bodies ++ body ∷ [])) ≡ all_frames (messages_of was.turns) numbers ++ mid.exchange.reply =
      ap (all_frames (messages_of was.turns)) (numbers-as (request_number_of body ∷ []) is.1) ∙ written-at (messages_of was.turns) numbers (request_number_of body) ∙ ap (λ (l : List ℕ). all_frames (messages_of was.turns) numbers ++ l) (sym frame_is) in
      record {
        turns = was.turns;
        journal_is = same ∙ was.journal_is;
        goes = subst (All Goes) (sym same) was.goes;
        ran = stands.ran;
        none = ap (list_any (λ (t : Turn). ends_run t.reply)) same ∙ was.none;
        uncut = stands.uncut;
        answers = subst (λ (e : LastAnswer). AnswersRequests (bodies ++ body ∷ []) was.turns e) (sym did.exchange) (record {
          calls_are = was.answers.calls_are ∙ ap calls_of_acting (sym (acting-as [] is.0 ∙ append-nil (acting 0 bodies)));
          count = was.answers.count;
          kept = was.answers.kept;
        });
        took = subst (λ (l : List ℕ). Appends old.sink.bytes new.sink.bytes l) (sym all_is)
            (Appends-trans old.sink.bytes mid.sink.bytes new.sink.bytes (all_frames (messages_of was.turns) numbers) mid.exchange.reply was.took put.0);
        quiet = put.1 ∙ was.quiet;
      }

  -- it acts: what is kept, and what was written
  acts-answers : (t : Turn) → adds-as Acts → request_number_of body ≡ mid.exchange.last + 1 → t.call ≡ called (message_of body)
      → new.exchange ≡ record { last = request_number_of body; reply = frame (numbered (request_number_of body) (message t.reply)) } → AnswersRequests (bodies ++ body ∷ []) (was.turns ++ t ∷ []) new.exchange
  acts-answers t is number call_is exchange_is =
      let count = was.answers.count in
      let long = length_push was.turns t in
      let same = length-messages was.turns in
      subst (λ (e : LastAnswer). AnswersRequests (bodies ++ body ∷ []) (was.turns ++ t ∷ []) e) (sym exchange_is) (record {
        calls_are = map_push (λ (u : Turn). u.call) was.turns t ∙ ap (λ (c : Call). map (λ (u : Turn). u.call) was.turns ++ c ∷ []) call_is
            ∙ ap (λ (cs : List Call). cs ++ called (message_of body) ∷ []) was.answers.calls_are ∙ sym (map_push (λ (b : List ℕ). called (message_of b)) (acting 0 bodies) body)
            ∙ ap calls_of_acting (sym (acting-as (body ∷ []) is.0));
        count = omega (arith, count, long, number);
        kept = λ some. frame-last (messages_of was.turns) (message t.reply) (request_number_of body) (omega (arith, count, number, same)) ∙ ap (λ (l : List (List ℕ)). frame_of l (request_number_of body)) (sym (messages-more was.turns t));
      })

  acts-took : (t : Turn) → adds-as Acts → request_number_of body ≡ mid.exchange.last + 1 → Appends mid.sink.bytes new.sink.bytes (frame (numbered (request_number_of body) (message t.reply)))
      → Appends old.sink.bytes new.sink.bytes (all_frames (messages_of (was.turns ++ t ∷ [])) (answered_numbers 0 (bodies ++ body ∷ [])))
  acts-took t is number took =
      let numbers = answered_numbers 0 bodies in
      let count = was.answers.count in
      let same = length-messages was.turns in
      let bytes = message t.reply in
      let before : List (List ℕ) = messages_of was.turns in
      let longer : List (List ℕ) = before ++ bytes ∷ [] in
      let piece = frame (numbered (request_number_of body) bytes) in
      let within = subst (λ (k : ℕ). Within k numbers) (sym (same ∙ count ∙ last)) (answered-within 0 bodies) in
      let all_is : all_frames longer (answered_numbers 0 (bodies ++ body ∷ [])) ≡ all_frames before numbers ++ piece =
      ap (all_frames longer) (numbers-as (request_number_of body ∷ []) is.1) ∙ written-at longer numbers (request_number_of body)
      ∙ ap (λ (l : List ℕ). l ++ frame_of longer (request_number_of body)) (written-more before bytes numbers within)
      ∙ ap (λ (l : List ℕ). all_frames before numbers ++ l) (sym (frame-last before bytes (request_number_of body) (omega (arith, count, number, same)))) in
      subst (λ (l : List ℕ). Appends old.sink.bytes new.sink.bytes l) (sym (ap (λ (l : List (List ℕ)). all_frames l (answered_numbers 0 (bodies ++ body ∷ []))) (messages-more was.turns t) ∙ all_is))
      (Appends-trans old.sink.bytes mid.sink.bytes new.sink.bytes (all_frames before numbers) piece was.took took)

  acts-on : (bytes : List ℕ) → adds-as Acts → request_number_of body ≡ mid.exchange.last + 1
      → OneReply E (called (message_of body)) bytes mid.run new.run
      → new.exchange ≡ record { last = request_number_of body; reply = frame (numbered (request_number_of body) bytes) }
      → Appends mid.sink.bytes new.sink.bytes (frame (numbered (request_number_of body) bytes)) → new.sink.faults ≡ mid.sink.faults → ServesRequests E first start (bodies ++ body ∷ []) old new
  acts-on bytes is number one exchange_is took same =
      let t : Turn = one.turn in
      let did = one.one in
      let goes = goes-none E.files E.faults E.faults (called (message_of body)) t.reply did.unsent did.turns.unread one.goes in
      let stands = stands-on E first start (called (message_of body)) t mid.run new.run off stood was.none did in
      record {
        turns = was.turns ++ t ∷ [];
        journal_is = did.kept ∙ ap (λ (j : List Turn). j ++ t ∷ []) was.journal_is ∙ append_assoc first was.turns (t ∷ []);
        goes = subst (All Goes) (sym did.kept) (All-push Goes mid.run.journal t was.goes one.goes);
        ran = stands.ran;
        none = ap (list_any (λ (u : Turn). ends_run u.reply)) did.kept ∙ any-more (λ (u : Turn). ends_run u.reply) mid.run.journal t was.none goes;
        uncut = stands.uncut;
        answers = acts-answers t is number did.turns.call_is (exchange_is ∙ ap (λ (b : List ℕ). record { last = request_number_of body; reply = frame (numbered (request_number_of body) b) }) one.bytes_are);
        took = acts-took t is number (subst (λ (b : List ℕ). Appends mid.sink.bytes new.sink.bytes (frame (numbered (request_number_of body) b))) one.bytes_are took);
        quiet = same ∙ was.quiet;
      }

  -- ---- any request

  new-on : (result : Result (Unit {0}) ServeEnd) → adds-as Acts → request_number_of body ≡ mid.exchange.last + 1
      → ServesNew E (request_number_of body) (called (message_of body)) mid new result → result ≡ Ok tt → ServesRequests E first start (bodies ++ body ∷ []) old new
  new-on result is number (answered bytes one exchange_is puts) goes =
      let put = put-all (frame (numbered (request_number_of body) bytes)) result mid.sink new.sink puts goes in
      acts-on bytes is number one exchange_is put.0 put.1
  new-on result is number (stopped e stop ends same_exchange same_sink) goes = absurd (cc)

  pub one-on : (result : Result (Unit {0}) ServeEnd) → ServesOne E body mid new result → result ≡ Ok tt → ServesRequests E first start (bodies ++ body ∷ []) old new
  one-on result serves goes =
      by (admission mid.exchange.last (request_number_of body)) (adds mid.exchange.last body) (admits mid.exchange.last (request_number_of body)) serves
    where
      by : (a : Admission) → adds-as a
          → Admits mid.exchange.last (request_number_of body) a → ServesBy a E body mid new result
          → ServesRequests E first start (bodies ++ body ∷ []) old new
      by Acts is number served = new-on result is number served goes
      by Repeats is same served = repeats-on is same.0 same.1 result served goes
      by Ignored is none served = ignored-on is served.0

-- ---- what a serving's loop keeps

frames-more : (bodies : List (List ℕ)) (body : List ℕ) → frames (bodies ++ body ∷ []) ≡ frames bodies ++ frame body
frames-more bodies body = flat_map-append frame bodies (body ∷ []) ∙ ap (λ (l : List ℕ). frames bodies ++ l) (append-nil (frame body))

-- the requests so far, of each run that was begun before them
pub record SoFar (E : Scene) (old now : At) (from to : Port) (read : ℕ) : Type 0 where
  pub bodies : List (List ℕ)
  pub each : AreBodies bodies
  pub consumed : Consumes from.bytes to.bytes (frames bodies)
  pub count : read ≡ length (frames bodies)
  pub few : read ≤ most_bytes
  pub quiet : to.faults ≡ from.faults
  pub goes : (first : List Turn) (start : TurnMoment) → start.on ≡ None → ServesRequests E first start [] old old → ServesRequests E first start bodies old now

module _ (E : Scene) (old : At) (from : Port) where
  pub so-far-none : (read : ℕ) → read ≡ 0 → read ≤ most_bytes → SoFar E old old from from read
  so-far-none read is few = record { bodies = []; each = All-nil IsBody; consumed = Consumes-nil from.bytes; count = is; few = few; quiet = refl; goes = λ first start off none. none }

  module _ (now : At) (mid : Port) (read : ℕ) (was : SoFar E old now from mid read) where
    -- the frame of one body more
    module _ (rest : Port) (reads : ℕ) (body : List ℕ) (frame_is : ReadsFrame body read reads mid.bytes rest.bytes) where
      consumed-more : Consumes from.bytes rest.bytes (frames (was.bodies ++ body ∷ []))
      consumed-more = subst (λ (l : List ℕ). Consumes from.bytes rest.bytes l) (sym (frames-more was.bodies body))
          (Consumes-trans from.bytes mid.bytes rest.bytes (frames was.bodies) (frame body) was.consumed frame_is.consumed)

      count-more : reads ≡ length (frames (was.bodies ++ body ∷ []))
      count-more = frame_is.count ∙ ap (λ (n : ℕ). n + length (frame body)) was.count ∙ sym (length-append (frames was.bodies) (frame body)) ∙ ap length (sym (frames-more was.bodies body))

      pub so-far-more : (new : At) (result : Result (Unit {0}) ServeEnd) → rest.faults ≡ mid.faults → reads ≤ most_bytes → ServesOne E body now new result → result ≡ Ok tt → SoFar E old new from rest reads
      so-far-more new result quiet few serves goes = record {
        bodies = was.bodies ++ body ∷ [];
        each = All-push IsBody was.bodies body was.each frame_is.is;
        consumed = consumed-more;
        count = count-more;
        few = few;
        quiet = quiet ∙ was.quiet;
        goes = λ first start off none. one-on E first start off was.bodies body old now new (was.goes first start off none) result serves goes;
      }

      pub ends-at : (new : At) (e : ServeEnd) → rest.faults ≡ mid.faults → reads ≤ most_bytes → ServesOne E body now new (Err e) → IsEarlyEnd e → GoesOn E old new e from rest
      ends-at new e quiet few serves early first start off none =
          ServeEnds.at_a_request was.bodies body now (was.goes first start off none)
          (record { each = All-push IsBody was.bodies body was.each frame_is.is; consumed = consumed-more; few = subst (λ (n : ℕ). n ≤ most_bytes) count-more few })
          (quiet ∙ was.quiet) serves early

    pub ends-there : (rest : Port) (taken : ℕ) (e : ServeEnd) (why : FrameStop) → StopsReading why read taken mid.bytes rest.bytes → taken ≤ most_bytes → rest.faults ≡ stop_faults {T = ℕ} (Err why) mid.faults → mid.faults ≤ rest.faults
        → e ≡ end_of_stop why → GoesOn E old now e from rest
    ends-there rest taken e why stops few fails later is first start off none =
        ServeEnds.at_the_end was.bodies mid.bytes why (was.goes first start off none)
        (record { each = was.each; consumed = was.consumed; few = subst (λ (n : ℕ). n ≤ most_bytes) was.count was.few })
        (record {
          taken = taken;
          stops = subst (λ (n : ℕ). StopsReading why n taken mid.bytes rest.bytes) was.count stops;
          few = few;
          count = fails ∙ ap (stop_faults {T = ℕ} (Err why)) was.quiet;
          later = subst (λ (n : ℕ). n ≤ rest.faults) was.quiet later;
        }) is
