-- What the copies take of an armed loss.
use Rattle.std.proofs.Common.{◌≡◌, ℕ, suc, ◌+◌, ◌*◌, ◌<◌, ◌≤◌, Bool, true, false, cond, List, [], length, get_or, Option, Some, Result, Ok, Err, refl, sym, ap, subst, ◌∙◌, arith}
use Rattle.std.specs.Prelude.{OnOk}
use Rattle.flash_core.specs.{declared.flash.Arming.Arming, Counts.lowered_by}
use Rattle.fwu_formats.specs.Layout.{find_image}
use Rattle.fwu_model.specs.{State.State, Sound.Setting, Session.Session}
use Rattle.fwu_model.specs.Call as call
use Rattle.fwu_model.specs.Reply as reply
use Rattle.base_core.specs.Block.{block_bytes}
use Rattle.slot_writer.specs.Writes.{writes_to_append, writes_to_finish}
use Rattle.agent_kept.specs.{declared.parts.Handle.TheVariants.Writes, Kept.part_at, Kept.handle_kept, Kept.size_of}
use Rattle.agent_machine.specs.{declared.stop.Stop.Stop, Ends.IsWriter, Fields.total_of, Goes.GoesByMoves, Meets.flash_result}
use Rattle.agent_machine.specs.{Moment.Moment, Moment.Shows, Filling.within}
use Rattle.agent_calls.specs.Copies.{CopiesBytes}
use Rattle.agent_calls.specs.Takes.{Takes, PieceTakes, FrontTakes, CopyTakes, CopiesTake, piece_at, pieces_of, writes_of_image, writes_of_pieces, writes_to_copy}
use Rattle.agent_machine.proofs.{CallGoing.MeetsAs, Writer.writer, Writer.written}
use Rattle.agent_calls.proofs.{Copies.CopiesFront, Copies.plain, Copies.image-opened, CopyingAll.CopiesFirst}
use Rattle.agent_calls.proofs.{CopyingAll.first-long, CopyingAll.first-empty, Pieces.Pieces, Pieces.next-piece, Pieces.pieces-all}
use Rattle.agent_calls.proofs.{Pieces.pieces-more, Pieces.pieces-none, Taking.takes-as, Taking.takes-none, Taking.takes-then}

-- ---- a piece

-- a write by the handle that writes the image, behind a read
pub piece-takes : (image at n : ℕ) (old mid : Moment) (armed arming : Option Arming)
    → ((E : Setting) (s : State) (x : Session) → Shows old s x → GoesByMoves E (Ok tt) old mid s [] x)
    → ((i : ℕ) → handle_kept mid.fields.session 0 ≡ Writes i
    → arming ≡ lowered_by (writes_to_append (size_of (part_at mid.fields.session i)) n) armed) → PieceTakes image at n old armed arming
piece-takes image at n old mid armed arming reads lowered s boot parts before below count shows =
    let now = (reads (plain old.fields) s (within boot parts image before) shows).shows in
    let size : size_of (part_at mid.fields.session image) ≡ at = written mid s boot parts image before below now ∙ count in
    lowered image (writer mid s boot parts image before below now)
    ∙ ap (λ (m : ℕ). lowered_by (writes_to_append m n) armed) size

-- ---- an image, piece by piece

-- its first bytes, which are whole pieces or all
pub record FrontTaken (image at : ℕ) (old : Moment) (armed arming : Option Arming) : Type 0 where
  pub count : ℕ
  pub pieces : Pieces block_bytes (total_of old.fields (Some image)) at count
  pub takes : FrontTakes image count old armed arming

pub front-taken-none : (image : ℕ) (m : Moment) (armed : Option Arming) → FrontTaken image 0 m armed armed
front-taken-none image m armed = record {
  count = 0;
  pieces = pieces-none block_bytes (total_of m.fields (Some image)) (omega arith);
  takes = λ E s boot parts layout below shows. takes-none armed;
}

pub front-taken-more : (image at n : ℕ) (old mid : Moment) (a b c : Option Arming) → at < total_of old.fields (Some image)
    → n ≡ piece_at block_bytes (total_of old.fields (Some image)) at
    → CopiesFront image at old mid → FrontTaken image at old a b → PieceTakes image at n mid b c → FrontTaken image (at + n) old a c
front-taken-more image at n old mid a b c more is first front piece =
    let total = total_of old.fields (Some image) in
    let here : at ≡ block_bytes * front.count = next-piece block_bytes total at front.count front.pieces more in
    let same : writes_to_append at n
    ≡ writes_to_append (block_bytes * front.count) (piece_at block_bytes total (block_bytes * front.count)) =
    ap (writes_to_append at) is ∙ ap (λ (m : ℕ). writes_to_append m (piece_at block_bytes total m)) here in
    record {
      count = suc front.count;
      pieces = pieces-more block_bytes total at front.count front.pieces n more is;
      takes = λ E s boot parts layout below shows.
          let one = first.goes E s boot parts layout below shows in
          takes-then (writes_of_pieces block_bytes total front.count) (writes_to_append at n)
          (writes_of_pieces block_bytes total (suc front.count)) a b c (ap (λ (w : ℕ). writes_of_pieces block_bytes total front.count + w) same)
          (front.takes E s boot parts layout below shows) (piece s boot parts first.bytes below first.count one.shows);
    }

pub front-taken-all : (image at : ℕ) (old : Moment) (a b : Option Arming) → total_of old.fields (Some image) ≤ at → FrontTaken image at old a b
    → FrontTakes image (pieces_of block_bytes (total_of old.fields (Some image))) old a b
front-taken-all image at old a b all front =
    let total = total_of old.fields (Some image) in
    subst (λ (k : ℕ). FrontTakes image k old a b) (pieces-all block_bytes total at front.count front.pieces (omega arith) all) front.takes

-- ---- an image

image-takes : (guid : List ℕ) (image h : ℕ) (old opened mid : Moment) (a b c : Option Arming) → find_image old.fields.layout.rows guid ≡ Some image
    → ((passes : List ℕ → Bool) → MeetsAs {T = ℕ} (λ k. reply.Opened k) (Ok h) passes (call.OpenWrite guid) old opened)
    → CopiesBytes image (Ok tt) opened mid
    → FrontTakes image (pieces_of block_bytes (total_of opened.fields (Some image))) opened a b
    → ((i : ℕ) → IsWriter mid.fields 1 i → c ≡ lowered_by (writes_to_finish (size_of (part_at mid.fields.session i))) b)
    → CopyTakes image old a c
image-takes guid image h old opened mid a b c found opens copied takes lowered E s boot parts layout below none shows =
    let one = image-opened guid image h old opened opens found E s boot parts layout none shows in
    let there = layout ∙ sym one.stays.layout in
    let two = copied.goes E s boot parts there below one.shows in
    let total : total_of opened.fields (Some image) ≡ total_of old.fields (Some image) = ap (λ (l : List ℕ). get_or l image 0) one.stays.lengths in
    let size : size_of (part_at mid.fields.session image) ≡ total_of old.fields (Some image) =
    written mid s boot parts image copied.bytes below two.shows ∙ copied.count ∙ total in
    let all = total_of old.fields (Some image) in
    let ended : Takes (writes_to_finish all) b c =
    lowered image (omega arith, writer mid s boot parts image copied.bytes below two.shows)
    ∙ ap (λ (m : ℕ). lowered_by (writes_to_finish m) b) size in
    takes-then (writes_of_pieces block_bytes all (pieces_of block_bytes all)) (writes_to_finish all) (writes_of_image block_bytes all) a b c refl
    (subst (λ (n : ℕ). Takes (writes_of_pieces block_bytes n (pieces_of block_bytes n)) a b) total (takes E s boot parts there below one.shows)) ended

-- what holds of a flash that did it all holds where the call was done
pub lowered-of : (A : Type 0) (result : Result (Unit {0}) Stop) → OnOk (flash_result result) A → OnOk result A
lowered-of A (Ok u) h = h
lowered-of A (Err q) h = tt

pub when-done : (A B : Type 0) (result : Result (Unit {0}) Stop) → OnOk result A → (A → B) → OnOk result B
when-done A B (Ok u) h by = by h
when-done A B (Err q) h by = tt

pub copy-takes : (result : Result (Unit {0}) Stop) (guid : List ℕ) (image h : ℕ) (old opened mid : Moment) (a b c : Option Arming)
    → find_image old.fields.layout.rows guid ≡ Some image
    → ((passes : List ℕ → Bool) → MeetsAs {T = ℕ} (λ k. reply.Opened k) (Ok h) passes (call.OpenWrite guid) old opened)
    → CopiesBytes image (Ok tt) opened mid
    → FrontTakes image (pieces_of block_bytes (total_of opened.fields (Some image))) opened a b
    → ((i : ℕ) → IsWriter mid.fields 1 i → OnOk result (c ≡ lowered_by (writes_to_finish (size_of (part_at mid.fields.session i))) b))
    → OnOk result (CopyTakes image old a c)
copy-takes (Ok u) guid image h old opened mid a b c found opens copied takes lowered = image-takes guid image h old opened mid a b c found opens copied takes lowered
copy-takes (Err q) guid image h old opened mid a b c found opens copied takes lowered = tt

-- ---- the images

pub copies-take-none : (named : List Bool) (m : Moment) (armed : Option Arming) → CopiesTake named 0 m armed armed
copies-take-none named m armed E s boot layout shows = takes-none armed

next-number : (k : ℕ) → suc k ≡ k + 1
next-number k = omega arith

pub copies-take-named : (named : List Bool) (k : ℕ) (old : Moment) (a b : Option Arming) → get_or named k true ≡ true
    → CopiesTake named k old a b → CopiesTake named (k + 1) old a b
copies-take-named named k old a b is takes E s boot layout shows =
    let copied = writes_to_copy named old.fields.lengths in
    takes-as (copied k) (copied (k + 1)) a b (sum ∙ ap copied (next-number k)) (takes E s boot layout shows)
  where
    sum : writes_to_copy named old.fields.lengths k ≡ writes_to_copy named old.fields.lengths (suc k)
    sum = let none = ap (λ (b : Bool). cond b 0 (writes_of_image block_bytes (get_or old.fields.lengths k 0))) is in omega (arith, none)

pub copies-take-more : (named : List Bool) (k : ℕ) (old mid : Moment) (a b c : Option Arming) → k < length named → get_or named k true ≡ false
    → CopiesFirst named k old mid → CopiesTake named k old a b → CopyTakes k mid b c → CopiesTake named (k + 1) old a c
copies-take-more named k old mid a b c below is first takes image E s boot layout shows =
    let one = first.goes E s boot layout shows in
    let parts-long = first-long named k first.bytes in
    let copied = writes_to_copy named old.fields.lengths in
    let writes = writes_of_image block_bytes (get_or old.fields.lengths k 0) in
    let more = ap (λ (x : Bool). cond x 0 writes) is in
    let same : writes_of_image block_bytes (total_of mid.fields (Some k)) ≡ writes =
    ap (λ (l : List ℕ). writes_of_image block_bytes (get_or l k 0)) first.stays.lengths in
    takes-as (copied (suc k)) (copied (k + 1)) a c (ap copied (next-number k))
    (takes-then (copied k) (writes_of_image block_bytes (total_of mid.fields (Some k))) (copied (suc k)) a b c
    (omega (arith, more, same)) (takes E s boot layout shows)
    (image E s boot _ (layout ∙ sym one.stays.layout) (omega (arith, below, parts-long)) (first-empty named k first.bytes below) one.shows))
