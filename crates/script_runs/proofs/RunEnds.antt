-- The calls of a script that are left, as they are taken out one by one.
use Rattle.std.proofs.Common.{◌≡◌, ℕ, zero, suc, ◌+◌, ◌≤◌, Bool, true, false, not, List, ◌∷◌, ◌++◌, slice_set, Some, refl, sym, ap, subst, ◌∙◌, IsTrue, IsFalse, Contains, arith, [], ◌≢◌, ◌||◌, length, take, drop, Option, None, append-nil, append_assoc, length-append}
use Rattle.std.specs.{List.slice_get, List.list_any, Io.KnownBytes.Appends}
use Rattle.std.proofs.lemmas.Bool.{and_parts, false≢true, or_parts}
use Rattle.std.proofs.lemmas.List.Elements.{Contains-append_left, Contains-push}
use Rattle.std.proofs.lemmas.Option.{same_Some, slice_get_within, get_or_from_slice_get}
use Rattle.std.proofs.{Math.Seq.take-length, lemmas.List.Folds.list_all-append, lemmas.List.Folds.list_any-append, lemmas.Grind.flat_map-append}
use Rattle.host_io.specs.{Access.Access, Contents.Directory}
use Rattle.fwu_model.specs.{Call.Call, Reply.Turn, Reply.Reply, Run.is_send, Run.ends_run, declared.kinds.Note.Note, Text.line}
use Rattle.fwu_model.specs.{Headline.IsPrefixOf, Text.text, Text.call_word, Text.reply_text, Wrote.may_lack, Causes.status_by, Causes.note_by}
use Rattle.script_turns.specs.Runs.{calls_of, sends_none, Ran}
use Rattle.script_turns.specs.{Sending.IsUnnamed, Powered.FitsMachine, Powered.TurnMoment, Turning.Turns}
use Rattle.std.specs.Prelude.{codes}
use Rattle.std.proofs.lemmas.List.{take-append-drop, map-append, take_more, append_cancel_left}
use Rattle.host_io.specs.Printed.{FailsAtThree, Prints, all, front, nothing}
use Rattle.fwu_model.specs.declared.kinds.Note.TheVariants as note
use Rattle.fwu_model.specs.Reply as reply
use Rattle.script_turns.proofs.RunTurns.{ran-none, ran-on}
use Rattle.script_runs.proofs.TopSources.{counts-line, later}
use Rattle.script_runs.specs.Ending.{IsUnnamedIn, DoesTurn, ScriptEnded, WritesLines, Printed, last_turn, status_of_last, note_of_last}

-- those behind one that was taken stay
pub left-behind : (calls : List Call) (i : ℕ) (c : Call) (k : ℕ) → i + 1 ≤ k → slice_get (slice_set calls i c) k ≡ slice_get calls k
left-behind [] i c k behind = refl
left-behind (x ∷ calls) zero c zero behind = absurd (omega (arith, behind))
left-behind (x ∷ calls) zero c (suc k) behind = refl
left-behind (x ∷ calls) (suc i) c zero behind = absurd (omega (arith, behind))
left-behind (x ∷ calls) (suc i) c (suc k) behind = left-behind calls i c k (omega (arith, behind))

false-of : (b : Bool) → IsTrue (not b) → IsFalse b
false-of false is = refl
false-of true is = absurd (false≢true is)

-- where a script sends nothing, its first calls don't
pub sends-front : (calls script : List Call) → IsPrefixOf calls script → IsTrue (sends_none script) → IsTrue (sends_none calls)
sends-front calls script first none = (and_parts (sends_none calls) (sends_none first.0) (sym (list_all-append (λ (y : Call). not (is_send y)) calls first.0) ∙ ap sends_none first.1 ∙ none)).0

-- where no turn is a sending, the last isn't, nor those before it
pub sends-more : (before after : List Turn) (t : Turn) → after ≡ before ++ t ∷ [] → IsTrue (sends_none (calls_of after)) → IsTrue (sends_none (calls_of before)) × IsFalse (is_send t.call)
sends-more before after t kept none =
    let calls : calls_of after ≡ calls_of before ++ t.call ∷ [] = ap calls_of kept ∙ map-append (λ (u : Turn). u.call) before (t ∷ []) in
    let parts = and_parts (sends_none (calls_of before)) (sends_none (t.call ∷ [])) (sym (list_all-append (λ (y : Call). not (is_send y)) (calls_of before) (t.call ∷ [])) ∙ ap sends_none (sym calls) ∙ none) in
    (parts.0, false-of (is_send t.call) (and_parts (not (is_send t.call)) true parts.1).0)

-- an access that no turn makes, the last doesn't make, nor those before it
pub unnamed-more : (before after : List Turn) (t : Turn) (access : Access) → after ≡ before ++ t ∷ [] → IsUnnamedIn after access → IsUnnamedIn before access × IsUnnamed t.call access
unnamed-more before after t access kept none = (
  λ u in_it. none u (subst (λ (j : List Turn). Contains j u) (sym kept) (Contains-append_left before (t ∷ []) u in_it)),
  none t (subst (λ (j : List Turn). Contains j t) (sym kept) (Contains-push before t)),
)

-- ---- one turn

-- What one turn leaves: it does the call c, it is kept, and its line was printed with this status.
pub record Steps (passes : List ℕ → Bool) (tells : Bool) (files : Option Directory) (c : Call)
    (before after : List Turn) (old new : TurnMoment) (from to : ℕ) (status : ℕ) (noted : Note)
    (taken_before taken_after : Option (List ℕ)) (faults_before faults_after : ℕ) : Type 0 where
  pub turn : Turn
  pub turns : Turns passes tells files c turn old new from to
  pub fits : FitsMachine tells new
  pub kept : after ≡ before ++ turn ∷ []
  pub prints : Prints (line turn.call turn.reply) (status_by turn.reply) status taken_before taken_after faults_before faults_after
  pub noted_is : noted ≡ note_by turn.reply

-- ---- the statuses of replies

-- a turn that ends no run has the status 0, and no note
status-on : (r : Reply) → IsFalse (ends_run r) → status_by r ≡ 0
status-on reply.Fault on = absurd (false≢true (sym on))
status-on reply.ReadFault on = absurd (false≢true (sym on))
status-on (reply.NotBooted why) on = absurd (false≢true (sym on))
status-on other on = refl

note-on : (r : Reply) → IsFalse (ends_run r) → note_by r ≡ note.Nothing
note-on (reply.NotBooted why) on = absurd (false≢true (sym on))
note-on other on = refl

-- and the status 0 is of such a turn alone
pub on-at-zero : (r : Reply) → status_by r ≡ 0 → IsFalse (ends_run r)
on-at-zero reply.Fault zero_is = absurd (omega arith)
on-at-zero reply.ReadFault zero_is = absurd (omega arith)
on-at-zero (reply.NotBooted why) zero_is = absurd (omega arith)
on-at-zero other zero_is = refl

status-whole : (r : Reply) → IsFalse (may_lack (status_by r))
status-whole reply.Fault = refl
status-whole other = refl

-- no turn ends a run as a script that is too long
not-long : (r : Reply) → status_by r ≢ 8
not-long reply.Fault is = absurd (omega arith)
not-long other is = absurd (omega arith)

last-not-long : (last : Option Turn) → status_of_last last ≢ 8
last-not-long None is = absurd (omega arith)
last-not-long (Some t) is = not-long t.reply is

pub ended-not-long : (script : List Call) (journal : List Turn) (status : ℕ) (noted : Note) → ScriptEnded script journal status noted → status ≢ 8
ended-not-long script journal status noted ended is = last-not-long (last_turn journal) (sym (ended.status_is (ap may_lack is)) ∙ is)

lacks-not : (status k : ℕ) → status ≡ k → IsTrue (may_lack k) → IsFalse (may_lack status) → ⊥
lacks-not status k is lacks whole = false≢true (sym whole ∙ ap may_lack is ∙ lacks)

-- ---- lines

line-some : (t : Turn) → line t.call t.reply ≡ [] → ⊥
unfolding line
line-some t is =
    let front = call_word t.call ++ codes " " ++ reply_text t.reply in
    let none : length (front ++ 10 ∷ []) ≡ 0 = ap length is in
    omega (arith, length-append front (10 ∷ []))

text-more : (journal : List Turn) (t : Turn) → text (journal ++ t ∷ []) ≡ text journal ++ line t.call t.reply
unfolding text
text-more journal t = flat_map-append (λ (u : Turn). line u.call u.reply) journal (t ∷ []) ∙ ap (λ (w : List ℕ). text journal ++ w) (append-nil (line t.call t.reply))

appended : (old new : Option (List ℕ)) (piece before : List ℕ) → old ≡ Some before → Appends old new piece → new ≡ Some (before ++ piece)
appended None new piece before is appends = absurd (cc)
appended (Some xs) None piece before is appends = absurd appends
appended (Some xs) (Some ys) piece before is appends = ap Some (appends ∙ ap (λ (b : List ℕ). b ++ piece) (same_Some xs before is))

-- ---- what is done at a status

-- at no other status than 3 and 9 the line was printed
printed-all : (piece : List ℕ) (plan status : ℕ) (old new : Option (List ℕ)) (was are : ℕ) → Prints piece plan status old new was are → IsFalse (may_lack status) → (status ≡ plan) × Appends old new piece
printed-all piece plan status old new was are (all is bytes later) whole = (is, bytes)
printed-all piece plan status old new was are (front is n bytes later rose) whole = absurd (lacks-not status 3 is refl whole)
printed-all piece plan status old new was are (nothing is same later) whole = absurd (lacks-not status 9 is refl whole)

-- and no reply is planned for 3
not-three : (r : Reply) → status_by r ≢ 3
not-three r three = lacks-not (status_by r) 3 three refl (status-whole r)

-- ---- the last turn

last-push : (journal : List Turn) (t : Turn) → last_turn (journal ++ t ∷ []) ≡ Some t
last-push [] t = refl
last-push (x ∷ []) t = refl
last-push (x ∷ y ∷ ys) t = last-push (y ∷ ys) t

last-on : (journal : List Turn) → IsFalse (list_any (λ (t : Turn). ends_run t.reply) journal) → (status_of_last (last_turn journal) ≡ 0) × (note_of_last (last_turn journal) ≡ note.Nothing)
last-on [] on = (refl, refl)
last-on (x ∷ []) on = let parts = or_parts (ends_run x.reply) false on in (status-on x.reply parts.0, note-on x.reply parts.0)
last-on (x ∷ y ∷ ys) on = last-on (y ∷ ys) (or_parts (ends_run x.reply) (list_any (λ (t : Turn). ends_run t.reply) (y ∷ ys)) on).1

-- ---- the calls

pub take-more : (X : Type 0) (xs : List X) (n : ℕ) (x : X) → slice_get xs n ≡ Some x → take n xs ++ x ∷ [] ≡ take (n + 1) xs
take-more X xs n x is =
    let at = get_or_from_slice_get xs n x x is in
    ap (λ (y : X). take n xs ++ y ∷ []) (sym at) ∙ sym (take_more xs n x (slice_get_within xs n x is))

calls-more : (script : List Call) (n : ℕ) (c : Call) (t : Turn) (journal : List Turn) → calls_of journal ≡ take n script → slice_get script n ≡ Some c → t.call ≡ c → calls_of (journal ++ t ∷ []) ≡ take (n + 1) script
calls-more script n c t journal calls at is =
    map-append (λ (u : Turn). u.call) journal (t ∷ []) ∙ ap (λ (xs : List Call). xs ++ t.call ∷ []) calls ∙ ap (λ (x : Call). take n script ++ x ∷ []) is ∙ take-more Call script n c at

pub on-more : (journal : List Turn) (t : Turn) → IsFalse (list_any (λ (u : Turn). ends_run u.reply) journal) → IsFalse (ends_run t.reply) → IsFalse (list_any (λ (u : Turn). ends_run u.reply) (journal ++ t ∷ []))
on-more journal t on last =
    list_any-append (λ (u : Turn). ends_run u.reply) journal (t ∷ [])
    ∙ ap (λ (b : Bool). b || list_any (λ (u : Turn). ends_run u.reply) (t ∷ [])) on ∙ ap (λ (b : Bool). b || false) last

some-push : (journal : List Turn) (t : Turn) → journal ++ t ∷ [] ≡ [] → ⊥
some-push journal t empty = let len = ap length empty in omega (arith, len, length-append journal (t ∷ []))

-- ---- an end by a turn

module _ (script : List Call) (n : ℕ) (c : Call) (journal : List Turn) (t : Turn) (status : ℕ) (noted : Note) (taken mids takes : Option (List ℕ)) (was am are : ℕ) where
  ended-by : calls_of journal ≡ take n script → slice_get script n ≡ Some c → t.call ≡ c → Prints (line t.call t.reply) (status_by t.reply) status mids takes am are → noted ≡ note_by t.reply → status ≢ 0
      → ScriptEnded script (journal ++ t ∷ []) status noted
  ended-by calls at is prints noted_is other = record {
    calls = (drop (n + 1) script, ap (λ (xs : List Call). xs ++ drop (n + 1) script) (calls-more script n c t journal calls at is) ∙ take-append-drop (n + 1) script);
    all_calls = λ zero_is. absurd (other zero_is);
    status_is = λ whole. (printed-all (line t.call t.reply) (status_by t.reply) status mids takes am are prints whole).0 ∙ ap status_of_last (sym (last-push journal t));
    noted_is = noted_is ∙ ap note_of_last (sym (last-push journal t));
    some = λ lacks. some-push journal t;
  }

  more-bytes : (piece before : List ℕ) → mids ≡ Some (before ++ text journal) → Appends mids takes piece → takes ≡ Some (before ++ (text journal ++ piece))
  more-bytes piece before is appends = appended mids takes piece (before ++ text journal) is appends ∙ ap Some (append_assoc before (text journal) piece)

  whole-by : (before : List ℕ) → mids ≡ Some (before ++ text journal) → Prints (line t.call t.reply) (status_by t.reply) status mids takes am are → (w : List ℕ) × (takes ≡ Some (before ++ w)) × WritesLines (journal ++ t ∷ []) status w
  whole-by before is (all planned bytes later) = (
    text journal ++ line t.call t.reply,
    more-bytes (line t.call t.reply) before is bytes,
    record {
      whole = λ whole. sym (text-more journal t);
      front = λ three. absurd (lacks-not (status_by t.reply) 3 (sym planned ∙ three) refl (status-whole t.reply));
      none = λ nine. absurd (lacks-not (status_by t.reply) 9 (sym planned ∙ nine) refl (status-whole t.reply));
      less = λ nine. absurd (lacks-not (status_by t.reply) 9 (sym planned ∙ nine) refl (status-whole t.reply));
    },
  )
  whole-by before is (front three k bytes later rose) = (
    text journal ++ take k (line t.call t.reply),
    more-bytes (take k (line t.call t.reply)) before is bytes,
    record {
      whole = λ whole. absurd (lacks-not status 3 three refl whole);
      front = λ again. record { earlier = journal; last = t; journal_is = refl; count = k; written = refl };
      none = λ nine. absurd (omega arith);
      less = λ nine. absurd (omega arith);
    },
  )
  whole-by before is (nothing nine same later) = (
    text journal,
    same ∙ is,
    record {
      whole = λ whole. absurd (lacks-not status 9 nine refl whole);
      front = λ three. absurd (omega arith);
      none = λ again. record { earlier = journal; last = t; journal_is = refl; written = refl };
      less = λ again all_of_it. line-some t (sym (append_cancel_left (text journal) [] (line t.call t.reply) (append-nil (text journal) ∙ all_of_it ∙ text-more journal t)));
    },
  )

  printed-by : ((before : List ℕ) → taken ≡ Some before → mids ≡ Some (before ++ text journal)) → am ≡ was → Prints (line t.call t.reply) (status_by t.reply) status mids takes am are
      → Printed (journal ++ t ∷ []) status taken takes was are
  printed-by bytes same prints = record {
    bytes = λ before is. whole-by before (bytes before is) prints;
    later = let more = later (line t.call t.reply) (status_by t.reply) status mids takes am are prints in omega arith;
    count = subst (λ (n : ℕ). FailsAtThree status n are) same (counts-line (line t.call t.reply) (status_by t.reply) status mids takes am are (not-three t.reply) prints);
  }

-- ---- going on

-- a turn whose line was put into the sink, of files that are told the same as at first
pub steps-printed : {passes : List ℕ → Bool} {tells : Bool} {told files : Option Directory} {c : Call} {before after : List Turn} {old new : TurnMoment} {from to plan : ℕ} {noted : Note} {text piece : List ℕ} {status : ℕ} {taken takes : Option (List ℕ)} {was are : ℕ}
    → told ≡ files → DoesTurn passes tells told c before after old new from to plan noted text → piece ≡ text → Prints piece plan status taken takes was are → Steps passes tells files c before after old new from to status noted taken takes was are
steps-printed {passes = passes} {tells = tells} {c = c} {old = old} {new = new} {from = from} {to = to} {piece = piece} {status = status} {taken = taken} {takes = takes} {was = was} {are = are} same does is prints = record {
  turn = does.turn;
  turns = subst (λ (f : Option Directory). Turns passes tells f c does.turn old new from to) same does.turns;
  fits = does.fits;
  kept = does.kept;
  prints = subst (λ (w : List ℕ). Prints w (status_by does.turn.reply) status taken takes was are) (is ∙ does.text_is) (subst (λ (k : ℕ). Prints piece k status taken takes was are) does.status_is prints);
  noted_is = does.noted_is;
}

-- A run that goes on: the first n calls of its script were done, none of their turns ended it, and the sink took all lines.
pub record GoesOn (passes : List ℕ → Bool) (tells : Bool) (files : Option Directory) (script : List Call) (n : ℕ) (journal : List Turn) (old new : TurnMoment) (from to : ℕ) (taken takes : Option (List ℕ)) (was are : ℕ) : Type 0 where
  pub ran : Ran passes tells files journal old new from to
  pub calls : calls_of journal ≡ take n script
  pub on : IsFalse (list_any (λ (t : Turn). ends_run t.reply) journal)
  pub bytes : (before : List ℕ) → taken ≡ Some before → takes ≡ Some (before ++ text journal)
  pub quiet : are ≡ was

module _ (passes : List ℕ → Bool) (tells : Bool) (files : Option Directory) (script : List Call) (old : TurnMoment) (from : ℕ) (taken : Option (List ℕ)) (was : ℕ) where
  pub goes-none : old.on ≡ None → GoesOn passes tells files script 0 [] old old from from taken taken was was
  unfolding text
  goes-none off = record {
    ran = ran-none passes tells files old from off;
    calls = refl;
    on = refl;
    bytes = λ before is. is ∙ ap Some (sym (append-nil before));
    quiet = refl;
  }

  module _ (n : ℕ) (c : Call) (journal after : List Turn) (mid new : TurnMoment) (through to : ℕ) (status : ℕ) (noted : Note) (mids takes : Option (List ℕ)) (am are : ℕ) where
    goes-push : old.on ≡ None → GoesOn passes tells files script n journal old mid from through taken mids was am → slice_get script n ≡ Some c → (step : Steps passes tells files c journal after mid new through to status noted mids takes am are) → status ≡ 0
        → GoesOn passes tells files script (n + 1) (journal ++ step.turn ∷ []) old new from to taken takes was are
    goes-push off goes at step zero_is =
        let t = step.turn in
        let printed = printed-all (line t.call t.reply) (status_by t.reply) status mids takes am are step.prints (ap may_lack zero_is) in
        record {
          ran = ran-on passes tells files c t journal old mid new from through to off goes.ran goes.on step.turns step.fits;
          calls = calls-more script n c t journal goes.calls at step.turns.call_is;
          on = on-more journal t goes.on (on-at-zero t.reply (sym printed.0 ∙ zero_is));
          bytes = λ before is. more-bytes script n c journal t status noted taken mids takes was am are (line t.call t.reply) before (goes.bytes before is) printed.1
              ∙ ap (λ (w : List ℕ). Some (before ++ w)) (sym (text-more journal t));
          quiet = (counts-line (line t.call t.reply) (status_by t.reply) status mids takes am are (not-three t.reply) step.prints).quiet (λ three. absurd (omega (arith, three, zero_is))) ∙ goes.quiet;
        }

    pub goes-on : old.on ≡ None → GoesOn passes tells files script n journal old mid from through taken mids was am → slice_get script n ≡ Some c → Steps passes tells files c journal after mid new through to status noted mids takes am are → status ≡ 0
        → GoesOn passes tells files script (n + 1) after old new from to taken takes was are
    goes-on off goes at step zero_is = subst (λ (j : List Turn). GoesOn passes tells files script (n + 1) j old new from to taken takes was are) (sym step.kept) (goes-push off goes at step zero_is)

    pub ends-ran : old.on ≡ None → GoesOn passes tells files script n journal old mid from through taken mids was am → Steps passes tells files c journal after mid new through to status noted mids takes am are → Ran passes tells files after old new from to
    ends-ran off goes step = subst (λ (j : List Turn). Ran passes tells files j old new from to) (sym step.kept) (ran-on passes tells files c step.turn journal old mid new from through to off goes.ran goes.on step.turns step.fits)

    pub ends-by : GoesOn passes tells files script n journal old mid from through taken mids was am → slice_get script n ≡ Some c → Steps passes tells files c journal after mid new through to status noted mids takes am are → status ≢ 0 → ScriptEnded script after status noted
    ends-by goes at step other =
        subst (λ (j : List Turn). ScriptEnded script j status noted) (sym step.kept)
        (ended-by script n c journal step.turn status noted taken mids takes was am are goes.calls at step.turns.call_is step.prints step.noted_is other)

    pub ends-printed : GoesOn passes tells files script n journal old mid from through taken mids was am → Steps passes tells files c journal after mid new through to status noted mids takes am are → Printed after status taken takes was are
    ends-printed goes step =
        subst (λ (j : List Turn). Printed j status taken takes was are) (sym step.kept)
        (printed-by script n c journal step.turn status noted taken mids takes was am are goes.bytes goes.quiet step.prints)

  module _ (journal : List Turn) (new : TurnMoment) (to : ℕ) (takes : Option (List ℕ)) (are : ℕ) where
    pub all-ended : GoesOn passes tells files script (length script) journal old new from to taken takes was are → ScriptEnded script journal 0 note.Nothing
    all-ended goes =
        let last = last-on journal goes.on in
        let calls : calls_of journal ≡ script = goes.calls ∙ take-length script in
        record {
          calls = ([], append-nil (calls_of journal) ∙ calls);
          all_calls = λ zero_is. calls;
          status_is = λ whole. sym last.0;
          noted_is = sym last.1;
          some = λ lacks. absurd (false≢true lacks);
        }

    pub all-printed : GoesOn passes tells files script (length script) journal old new from to taken takes was are → Printed journal 0 taken takes was are
    all-printed goes = record {
      bytes = λ before is. (
        text journal,
        goes.bytes before is,
        record {
          whole = λ whole. refl;
          front = λ three. absurd (omega arith);
          none = λ nine. absurd (omega arith);
          less = λ nine. absurd (omega arith);
        },
      );
      later = let same = goes.quiet in omega arith;
      count = record { failed = λ three. absurd (omega arith); quiet = λ other. goes.quiet };
    }
