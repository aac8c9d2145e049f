-- What the machine answers, by what is tested.
use Rattle.std.proofs.Common.{◌≡◌, ◌≢◌, ℕ, ◌+◌, ◌-◌, min, Bool, true, false, ◌&&◌, ◌||◌, not, ◌==◌, cond, leb, ltb, List, [], ◌∷◌, length, get_or, set, take, drop, map, Option, Some, None, refl, sym, ap, ap₂, ◌∙◌, subst, arith, length-drop}
use Rattle.std.proofs.lemmas.List.{take_min, length-take}
use Rattle.std.proofs.lemmas.Bool.{ne_eqb, ltb-false}
use Rattle.std.proofs.lemmas.List.Sums.{prefix_len-le-length}
use Rattle.std.specs.List.{position, position_or_len, list_any}
use Rattle.base_core.specs.Bytes.{same_bytes}
use Rattle.fwu_model.specs.declared.kinds.Status.TheVariants as status
use Rattle.fwu_model.specs.{declared.kinds.Op.Op, Sound.Setting, Call.Call}
use Rattle.fwu_model.specs.State.{State, Move, bank, is_invalid, update_bank}
use Rattle.fwu_model.specs.Session.{Session, Staged, On, staged_at, nothing_staged, no_handles, is_open, is_committed}
use Rattle.fwu_model.specs.Answer.{answer, answered, refused, answer_begin, answer_open_read, answer_open_write, answer_write, answer_read, answer_commit, answer_end, answer_cancel, answer_accept, answer_previous, cannot_begin, is_elsewhere, is_writer, lowest_free, is_full, opened, open_read, handle_at, exceeds_slot, content, with_committed, may_end, accept_image, may_leave, has_other, may_go_back, answer_begin_partial, names_unknown, are_named, copied_parts, image_held}
use Rattle.fwu_model.specs.declared.kinds.Op.TheVariants as op
use Rattle.fwu_formats.specs.Layout.{dir_guid, find_image}
use Rattle.fwu_model.specs.State as move
use Rattle.fwu_model.specs.Session as session
use Rattle.fwu_model.specs.Call as call
use Rattle.fwu_model.specs.Reply as reply
use Rattle.agent_kept.specs.declared.kinds.Request.TheVariants as request
use Rattle.agent_kept.specs.{declared.kinds.Decision.Decision, declared.parts.Handle.Handle}
use Rattle.agent_kept.specs.declared.kinds.Decision.TheVariants.{Refused, Do}
use Rattle.agent_kept.specs.declared.parts.Handle.TheVariants.{Free, Reads, Writes}
use Rattle.agent_kept.specs.Sound.{is_free_kept, is_writer_kept}
use Rattle.agent_kept.specs.Kept.{Kept, handle_meant, handles_meant, parts_meant, session_meant}
use Rattle.agent_kept.specs.Plans.{call_of, planned, DecidesAs, by_verdict, opened_staging, opened_handle}
use Rattle.agent_kept.specs.declared.kinds.Plan.TheVariants as plan
use Rattle.agent_state.specs.Decides.{opened_as}

if-true : {X : Type 0} (c : Bool) (a b : X) → c ≡ true → cond c a b ≡ a
if-true true a b e = refl
if-true false a b e = absurd cc

if-false : {X : Type 0} (c : Bool) (a b : X) → c ≡ false → cond c a b ≡ b
if-false true a b e = absurd cc
if-false false a b e = refl

stored : (i store : Bool) (ms : List Move) → store ≡ not i → cond i [] ms ≡ cond store ms []
stored true store ms e = sym (if-false store ms [] e)
stored false store ms e = sym (if-true store ms [] e)

not-zero : (n : ℕ) → n ≢ 0 → (n == 0) ≡ false
not-zero n ne = ne_eqb n 0 ne

module _ (E : Setting) (s : State) (boot : ℕ) (stg : Option (List Staged)) (hs : List session.Handle) (bytes : List ℕ) where
  abbrev here : Session
  here = On boot stg hs

  -- ---- begin

  pub begin-denied : (n : ℕ) → cannot_begin s boot stg ≡ true → answer E s here (call.Begin n) ≡ refused status.Denied here
  unfolding answer answer_begin
  begin-denied n e = if-true (cannot_begin s boot stg) _ _ e

  pub begin-late : (n : ℕ) → cannot_begin s boot stg ≡ false → n ≢ 0 → answer E s here (call.Begin n) ≡ refused status.NotAvailable here
  unfolding answer answer_begin
  begin-late n e ne = if-false (cannot_begin s boot stg) _ _ e ∙ if-true (not (n == 0)) _ _ (ap not (not-zero n ne))

  pub begin-does : (n : ℕ) (store : Bool) → cannot_begin s boot stg ≡ false → n ≡ 0 → store ≡ not (is_invalid (bank s (update_bank s)).state) → answer E s here (call.Begin n) ≡ planned E s boot stg hs bytes (plan.Begin store)
  unfolding answer answer_begin planned
  begin-does n store e z st =
      if-false (cannot_begin s boot stg) _ _ e ∙ if-false (not (n == 0)) _ _ (ap (λ (j : ℕ). not (j == 0)) z)
      ∙ ap (λ (ms : List Move). answered reply.Success ms (On boot (nothing_staged E) no_handles)) (stored (is_invalid (bank s (update_bank s)).state) store _ st)

  -- ---- a partial begin

  pub partly-denied : (types : List (List ℕ)) → cannot_begin s boot stg ≡ true → answer E s here (call.BeginPartial types) ≡ refused status.Denied here
  unfolding answer answer_begin_partial
  partly-denied types e = if-true (cannot_begin s boot stg) _ _ e

  pub partly-unknown : (types : List (List ℕ)) → cannot_begin s boot stg ≡ false → names_unknown E.layout.rows types ≡ true → answer E s here (call.BeginPartial types) ≡ refused status.Unknown here
  unfolding answer answer_begin_partial
  partly-unknown types e u = if-false (cannot_begin s boot stg) _ _ e ∙ if-true (names_unknown E.layout.rows types) _ _ u

  pub partly-does : (types : List (List ℕ)) (store : Bool) (named : List Bool) → cannot_begin s boot stg ≡ false → names_unknown E.layout.rows types ≡ false → store ≡ not (is_invalid (bank s (update_bank s)).state)
      → take (length E.layout.rows) named ≡ are_named E.layout.rows types → answer E s here (call.BeginPartial types) ≡ planned E s boot stg hs bytes (plan.BeginPartial store named)
  unfolding answer answer_begin_partial planned
  partly-does types store named e u st is =
      if-false (cannot_begin s boot stg) _ _ e ∙ if-false (names_unknown E.layout.rows types) _ _ u
      ∙ ap (λ (ms : List Move). answered reply.Success ms (On boot (Some (copied_parts (are_named E.layout.rows types) (image_held s s.active))) no_handles)) (stored (is_invalid (bank s (update_bank s)).state) store _ st)
      ∙ ap (λ (bs : List Bool). answered reply.Success (cond store (move.Free (update_bank s) ∷ []) []) (On boot (Some (copied_parts bs (image_held s s.active))) no_handles)) (sym is)

  -- ---- open

  pub by-room : (c : Call) (place : ℕ) (image : Option ℕ) (o : Op) (total : ℕ) (full : Bool)
      → answer E s here c ≡ cond full (refused status.Busy here) (answered (reply.Opened (place + 1)) [] (On boot (opened_staging stg image o) (set hs place (opened_handle image o))))
      → DecidesAs E s here c bytes (cond full (Refused status.Busy) (Do (plan.Open (place + 1) image o total)))
  unfolding planned
  by-room c place image o total true e = e
  by-room c place image o total false e = e ∙ ap (λ (j : ℕ). answered (reply.Opened (place + 1)) [] (On boot (opened_staging stg image o) (set hs j (opened_handle image o)))) (let j : place ≡ (place + 1) - 1 = omega arith in j)

  pub reads-opened : (c : Call) (target : Option ℕ) (total : ℕ) → answer E s here c ≡ open_read boot stg hs target
      → DecidesAs E s here c bytes (cond (leb 32 (lowest_free hs)) (Refused status.Busy) (Do (plan.Open (lowest_free hs + 1) target op.Read total)))
  reads-opened c target total e = by-room c (lowest_free hs) target op.Read total (leb 32 (lowest_free hs)) e

  pub open-read-image : (guid : List ℕ) (image : ℕ) → find_image E.layout.rows guid ≡ Some image → answer E s here (call.OpenRead guid) ≡ open_read boot stg hs (Some image)
  unfolding answer answer_open_read
  open-read-image guid image e = ap (answer_open_read E boot stg hs guid) e

  pub open-read-directory : (guid : List ℕ) → find_image E.layout.rows guid ≡ None → same_bytes guid dir_guid ≡ true → answer E s here (call.OpenRead guid) ≡ open_read boot stg hs None
  unfolding answer answer_open_read
  open-read-directory guid e d = ap (answer_open_read E boot stg hs guid) e ∙ if-true (same_bytes guid dir_guid) _ _ d

  pub open-read-unknown : (guid : List ℕ) → find_image E.layout.rows guid ≡ None → same_bytes guid dir_guid ≡ false → answer E s here (call.OpenRead guid) ≡ refused status.Unknown here
  unfolding answer answer_open_read
  open-read-unknown guid e d = ap (answer_open_read E boot stg hs guid) e ∙ if-false (same_bytes guid dir_guid) _ _ d

  pub open-write-directory : (guid : List ℕ) → find_image E.layout.rows guid ≡ None → same_bytes guid dir_guid ≡ true → answer E s here (call.OpenWrite guid) ≡ refused status.Denied here
  unfolding answer answer_open_write
  open-write-directory guid e d = ap (answer_open_write E boot stg hs guid) e ∙ if-true (same_bytes guid dir_guid) _ _ d

  pub open-write-unknown : (guid : List ℕ) → find_image E.layout.rows guid ≡ None → same_bytes guid dir_guid ≡ false → answer E s here (call.OpenWrite guid) ≡ refused status.Unknown here
  unfolding answer answer_open_write
  open-write-unknown guid e d = ap (answer_open_write E boot stg hs guid) e ∙ if-false (same_bytes guid dir_guid) _ _ d

  -- ---- write

  pub write-free : (h : ℕ) → handle_at hs h ≡ session.Free → answer E s here (call.Write h bytes) ≡ refused status.Unknown here
  unfolding answer answer_write
  write-free h e = ap (answer_write E boot stg hs bytes) e

  pub write-reads : (h : ℕ) (image : Option ℕ) (at : ℕ) → handle_at hs h ≡ session.Reads image at → answer E s here (call.Write h bytes) ≡ refused status.Denied here
  unfolding answer answer_write
  write-reads h image at e = ap (answer_write E boot stg hs bytes) e

  pub write-full : (h image : ℕ) → handle_at hs h ≡ session.Writes image → exceeds_slot E stg image bytes ≡ true → answer E s here (call.Write h bytes) ≡ refused status.OutOfBounds here
  unfolding answer answer_write
  write-full h image e x = ap (answer_write E boot stg hs bytes) e ∙ if-true (exceeds_slot E stg image bytes) _ _ x

  pub write-does : (h image at n : ℕ) → handle_at hs h ≡ session.Writes image → exceeds_slot E stg image bytes ≡ false → answer E s here (call.Write h bytes) ≡ planned E s boot stg hs bytes (plan.Write h image at n)
  unfolding answer answer_write planned
  write-does h image at n e x = ap (answer_write E boot stg hs bytes) e ∙ if-false (exceeds_slot E stg image bytes) _ _ x

  -- ---- read

  pub read-free : (h room : ℕ) → handle_at hs h ≡ session.Free → answer E s here (call.Read h room) ≡ refused status.Unknown here
  unfolding answer answer_read
  read-free h room e = ap (answer_read E s boot stg hs h room) e

  pub read-writes : (h room image : ℕ) → handle_at hs h ≡ session.Writes image → answer E s here (call.Read h room) ≡ refused status.Denied here
  unfolding answer answer_read
  read-writes h room image e = ap (answer_read E s boot stg hs h room) e

  pub read-does : (h room : ℕ) (image : Option ℕ) (at n total : ℕ) → handle_at hs h ≡ session.Reads image at → total ≡ length (content E s boot image) → n ≡ min room (total - at)
      → answer E s here (call.Read h room) ≡ planned E s boot stg hs bytes (plan.Read h image at n total)
  unfolding answer answer_read planned
  read-does h room image at n total e whole count =
      let all = content E s boot image in
      let left : length (drop at all) ≡ length all - at = length-drop at all in
      let same : take room (drop at all) ≡ take n (drop at all) = sym (take_min room (drop at all)) ∙ ap (λ (j : ℕ). take j (drop at all)) (let j : min room (length (drop at all)) ≡ n = omega (arith, left, whole, count) in j) in
      let long : length (take room (drop at all)) ≡ n = length-take room (drop at all) ∙ (let j : min room (length (drop at all)) ≡ n = omega (arith, left, whole, count) in j) in
      ap (answer_read E s boot stg hs h room) e
      ∙ ap₂ (λ (t : ℕ) (j : ℕ). answered (reply.Got t (take room (drop at all))) [] (On boot stg (set hs (h - 1) (session.Reads image (at + j))))) (sym whole) long
      ∙ ap (λ (b : List ℕ). answered (reply.Got total b) [] (On boot stg (set hs (h - 1) (session.Reads image (at + n))))) same

  -- ---- commit

  pub commit-free : (h request : ℕ) → handle_at hs h ≡ session.Free → answer E s here (call.Commit h request) ≡ refused status.Unknown here
  unfolding answer answer_commit
  commit-free h request e = ap (answer_commit boot stg hs h request) e

  pub commit-reads : (h request : ℕ) (image : Option ℕ) (at : ℕ) (bit : Bool) → handle_at hs h ≡ session.Reads image at → answer E s here (call.Commit h request) ≡ planned E s boot stg hs bytes (plan.Commit h None bit)
  unfolding answer answer_commit planned
  commit-reads h request image at bit e = ap (answer_commit boot stg hs h request) e

  pub commit-writes : (h request image : ℕ) (bit : Bool) → handle_at hs h ≡ session.Writes image → bit ≡ (request == 0) → answer E s here (call.Commit h request) ≡ planned E s boot stg hs bytes (plan.Commit h (Some image) bit)
  unfolding answer answer_commit planned
  commit-writes h request image bit e b =
      ap (answer_commit boot stg hs h request) e ∙ ap (λ (j : Bool). answered reply.Success [] (On boot (with_committed stg image j) (set hs (h - 1) session.Free))) (sym b)

-- ---- nothing is staged

module _ (E : Setting) (s : State) (boot : ℕ) (hs : List session.Handle) (bytes : List ℕ) where
  abbrev idle : Session
  idle = On boot None hs

  pub cancel-idle : answer E s idle call.Cancel ≡ refused status.Denied idle
  unfolding answer answer_cancel
  cancel-idle = refl

  pub end-idle : answer E s idle call.End ≡ refused status.Denied idle
  unfolding answer answer_end
  end-idle = refl

  pub open-write-idle : (guid : List ℕ) (image : ℕ) → find_image E.layout.rows guid ≡ Some image → answer E s idle (call.OpenWrite guid) ≡ refused status.Denied idle
  unfolding answer answer_open_write
  open-write-idle guid image e = ap (answer_open_write E boot None hs guid) e

  pub accept-elsewhere : (guid : List ℕ) → is_elsewhere s boot ≡ true → answer E s idle (call.Accepts guid) ≡ refused status.Denied idle
  unfolding answer answer_accept
  accept-elsewhere guid e = if-true (is_elsewhere s boot) _ _ e

  pub accept-unknown : (guid : List ℕ) → is_elsewhere s boot ≡ false → find_image E.layout.rows guid ≡ None → answer E s idle (call.Accepts guid) ≡ refused status.Unknown idle
  unfolding answer answer_accept
  accept-unknown guid e f = if-false (is_elsewhere s boot) _ _ e ∙ ap (accept_image s boot hs) f

  pub accept-does : (guid : List ℕ) (image : ℕ) (store : Bool) → is_elsewhere s boot ≡ false → find_image E.layout.rows guid ≡ Some image → store ≡ not (get_or (bank s s.active).bits image false)
      → answer E s idle (call.Accepts guid) ≡ planned E s boot None hs bytes (plan.Accept image store)
  unfolding answer answer_accept planned
  accept-does guid image store e f st =
      if-false (is_elsewhere s boot) _ _ e ∙ ap (accept_image s boot hs) f
      ∙ ap (λ (ms : List Move). answered reply.Success ms idle) (stored (get_or (bank s s.active).bits image false) store _ st)

  pub previous-stays : may_leave s boot ≡ false → answer E s idle call.Previous ≡ refused status.Denied idle
  unfolding answer answer_previous
  previous-stays e = if-true (not (may_leave s boot)) _ _ (ap not e)

  pub previous-alone : may_leave s boot ≡ true → has_other s ≡ false → answer E s idle call.Previous ≡ refused status.Denied idle
  unfolding answer answer_previous
  previous-alone e o = if-false (not (may_leave s boot)) _ _ (ap not e) ∙ if-true (not (has_other s)) _ _ (ap not o)

  verdict : (good : Bool) → cond (not good) (refused status.Denied idle) (answered reply.Success (move.Back ∷ []) idle) ≡ by_verdict idle good
  verdict true = refl
  verdict false = refl

  pub previous-asks : may_leave s boot ≡ true → has_other s ≡ true → answer E s idle call.Previous ≡ by_verdict idle (may_go_back E s (bank s s.previous).held)
  unfolding answer answer_previous
  previous-asks e o = if-false (not (may_leave s boot)) _ _ (ap not e) ∙ if-false (not (has_other s)) _ _ (ap not o) ∙ verdict (may_go_back E s (bank s s.previous).held)

-- ---- images are staged

module _ (E : Setting) (s : State) (boot : ℕ) (parts : List Staged) (hs : List session.Handle) (bytes : List ℕ) where
  abbrev staging : Session
  staging = On boot (Some parts) hs

  pub cancel-does : answer E s staging call.Cancel ≡ planned E s boot (Some parts) hs bytes plan.Cancel
  unfolding answer answer_cancel planned
  cancel-does = refl

  pub end-busy : list_any is_writer hs ≡ true → answer E s staging call.End ≡ refused status.Busy staging
  unfolding answer answer_end
  end-busy e = if-true (list_any is_writer hs) _ _ e

  pub end-unfit : list_any is_writer hs ≡ false → may_end E s parts ≡ false → answer E s staging call.End ≡ refused status.AuthFail staging
  unfolding answer answer_end
  end-unfit e m = if-false (list_any is_writer hs) _ _ e ∙ if-true (not (may_end E s parts)) _ _ (ap not m)

  pub end-does : list_any is_writer hs ≡ false → may_end E s parts ≡ true → answer E s staging call.End ≡ planned E s boot (Some parts) hs bytes plan.End
  unfolding answer answer_end planned
  end-does e m = if-false (list_any is_writer hs) _ _ e ∙ if-false (not (may_end E s parts)) _ _ (ap not m)

  pub open-write-committed : (guid : List ℕ) (image : ℕ) → find_image E.layout.rows guid ≡ Some image → is_committed (staged_at (Some parts) image) ≡ true → answer E s staging (call.OpenWrite guid) ≡ refused status.Denied staging
  unfolding answer answer_open_write
  open-write-committed guid image e c = ap (answer_open_write E boot (Some parts) hs guid) e ∙ if-true (is_committed (staged_at (Some parts) image)) _ _ c

  pub open-write-open : (guid : List ℕ) (image : ℕ) → find_image E.layout.rows guid ≡ Some image → is_committed (staged_at (Some parts) image) ≡ false → is_open (staged_at (Some parts) image) ≡ true
      → answer E s staging (call.OpenWrite guid) ≡ refused status.Busy staging
  unfolding answer answer_open_write
  open-write-open guid image e c o =
      ap (answer_open_write E boot (Some parts) hs guid) e ∙ if-false (is_committed (staged_at (Some parts) image)) _ _ c
      ∙ if-true (is_open (staged_at (Some parts) image) || is_full hs) _ _ (ap (λ (b : Bool). b || is_full hs) o)

  pub open-write-nothing : (guid : List ℕ) (image total : ℕ) → find_image E.layout.rows guid ≡ Some image → is_committed (staged_at (Some parts) image) ≡ false → is_open (staged_at (Some parts) image) ≡ false
      → DecidesAs E s staging (call.OpenWrite guid) bytes (cond (leb 32 (lowest_free hs)) (Refused status.Busy) (Do (plan.Open (lowest_free hs + 1) (Some image) op.Write total)))
  unfolding answer answer_open_write
  open-write-nothing guid image total e c o =
      by-room E s boot (Some parts) hs bytes (call.OpenWrite guid) (lowest_free hs) (Some image) op.Write total (leb 32 (lowest_free hs))
      (ap (answer_open_write E boot (Some parts) hs guid) e ∙ if-false (is_committed (staged_at (Some parts) image)) _ _ c
      ∙ ap (λ (b : Bool). cond (b || is_full hs) (refused status.Busy staging) (opened boot (Some (set parts image (session.Open []))) hs (session.Writes image))) o)

  pub accept-staging : (guid : List ℕ) → answer E s staging (call.Accepts guid) ≡ refused status.Denied staging
  unfolding answer answer_accept
  accept-staging guid = refl

  pub previous-staging : answer E s staging call.Previous ≡ refused status.Denied staging
  unfolding answer answer_previous
  previous-staging = refl

-- ---- handles

pub lowest-is : (hs : List Handle) → position_or_len is_free_kept hs ≡ lowest_free (map handle_meant hs)
lowest-is [] = refl
lowest-is (Free ∷ hs) = refl
lowest-is (Reads image at total ∷ hs) = ap (λ (n : ℕ). 1 + n) (lowest-is hs)
lowest-is (Writes image ∷ hs) = ap (λ (n : ℕ). 1 + n) (lowest-is hs)

pub writers-is : (hs : List Handle) → list_any is_writer_kept hs ≡ list_any is_writer (map handle_meant hs)
writers-is [] = refl
writers-is (Free ∷ hs) = writers-is hs
writers-is (Reads image at total ∷ hs) = writers-is hs
writers-is (Writes image ∷ hs) = refl

-- what is opened gets the lowest free handle
pub opened-decides : (E : Setting) (s : State) (sess : Session) (c : Call) (bytes : List ℕ) (k : Kept) (target : Option ℕ) (o : Op) (total : ℕ) (d : Decision) → d ≡ opened_as k target o total
    → DecidesAs E s sess c bytes (cond (leb 32 (lowest_free (handles_meant k))) (Refused status.Busy) (Do (plan.Open (lowest_free (handles_meant k) + 1) target o total))) → DecidesAs E s sess c bytes d
opened-decides E s sess c bytes k target o total d is by =
    subst (λ (e : Decision). DecidesAs E s sess c bytes e) (sym is)
    (subst (λ (n : ℕ). DecidesAs E s sess c bytes (cond (leb 32 n) (Refused status.Busy) (Do (plan.Open (n + 1) target o total)))) (sym (lowest-is k.handles)) by)

unplaced : (b : Bool) (n : ℕ) → cond b (Some n) None ≡ None → b ≡ false
unplaced true n e = absurd cc
unplaced false n e = refl

pub none-is : (xs : List Handle) → position is_free_kept xs ≡ None → length xs ≡ position_or_len is_free_kept xs
none-is xs e =
    let b = ltb-false _ _ (unplaced (ltb (position_or_len is_free_kept xs) (length xs)) _ e) in
    omega (arith, b, prefix_len-le-length (λ (h : Handle). not (is_free_kept h)) xs)

pub accepting : (staging here : Bool) → (not staging && here) ≡ true → (staging ≡ false) × (here ≡ true)
accepting true here e = absurd cc
accepting false true e = (refl, refl)
accepting false false e = absurd cc

denied : (E : Setting) (s : State) (boot : ℕ) (bytes : List ℕ) (hs : List session.Handle) (parts : List Staged) (guid : List ℕ) (staging here : Bool) → (not staging && here) ≡ false → is_elsewhere s boot ≡ not here
    → answer E s (On boot (cond staging (Some parts) None) hs) (call.Accepts guid) ≡ refused status.Denied (On boot (cond staging (Some parts) None) hs)
denied E s boot bytes hs parts guid true here e at = accept-staging E s boot parts hs bytes guid
denied E s boot bytes hs parts guid false true e at = absurd cc
denied E s boot bytes hs parts guid false false e at = accept-elsewhere E s boot hs bytes guid at

pub accept-denied : (E : Setting) (s : State) (boot : ℕ) (bytes : List ℕ) (k : Kept) (active : ℕ) (staged : ℕ → List ℕ) (guid : List ℕ) → active ≡ s.active → (not k.staging && (boot == active)) ≡ false
    → answer E s (session_meant k boot staged) (call.Accepts guid) ≡ refused status.Denied (session_meant k boot staged)
accept-denied E s boot bytes k active staged guid at e = denied E s boot bytes (handles_meant k) (parts_meant k staged) guid k.staging (boot == active) e (ap (λ (a : ℕ). not (boot == a)) (sym at))

pub open-unknown : (E : Setting) (s : State) (boot : ℕ) (stg : Option (List Staged)) (hs : List session.Handle) (bytes guid : List ℕ) (o : Op) (total : ℕ) → find_image E.layout.rows guid ≡ None → same_bytes guid dir_guid ≡ false
    → answer E s (On boot stg hs) (call_of (request.Open guid o total) bytes) ≡ refused status.Unknown (On boot stg hs)
open-unknown E s boot stg hs bytes guid op.Read total e d = open-read-unknown E s boot stg hs bytes guid e d
open-unknown E s boot stg hs bytes guid op.Write total e d = open-write-unknown E s boot stg hs bytes guid e d

stays : (E : Setting) (s : State) (boot : ℕ) (bytes : List ℕ) (hs : List session.Handle) (parts : List Staged) (staging leave : Bool) → (not staging && leave) ≡ false → may_leave s boot ≡ leave
    → answer E s (On boot (cond staging (Some parts) None) hs) call.Previous ≡ refused status.Denied (On boot (cond staging (Some parts) None) hs)
stays E s boot bytes hs parts true leave e at = previous-staging E s boot parts hs bytes
stays E s boot bytes hs parts false true e at = absurd cc
stays E s boot bytes hs parts false false e at = previous-stays E s boot hs bytes at

pub previous-denied : (E : Setting) (s : State) (boot : ℕ) (bytes : List ℕ) (k : Kept) (staged : ℕ → List ℕ) (leave : Bool) → (not k.staging && leave) ≡ false → may_leave s boot ≡ leave
    → answer E s (session_meant k boot staged) call.Previous ≡ refused status.Denied (session_meant k boot staged)
previous-denied E s boot bytes k staged leave e at = stays E s boot bytes (handles_meant k) (parts_meant k staged) k.staging leave e at

pub discover-tells : (E : Setting) (s : State) (boot : ℕ) (stg : Option (List Staged)) (hs : List session.Handle) (bytes : List ℕ) → answer E s (On boot stg hs) call.Discover ≡ planned E s boot stg hs bytes plan.Tell
unfolding answer planned
discover-tells E s boot stg hs bytes = refl
