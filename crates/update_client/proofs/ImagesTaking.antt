-- What the calls of a sending take of an armed loss.
use Rattle.std.proofs.Common.{Bool, ◌≡◌, ℕ, suc, ◌+◌, ◌*◌, ◌<◌, ◌≤◌, List, [], ◌∷◌, ◌++◌, take, length, get_or, Option, Some, Ok, refl, sym, ap, subst, ◌∙◌, arith}
use Rattle.std.proofs.lemmas.List.{take_all}
use Rattle.std.specs.{Prelude.◌==◌, List.cons_option}
use Rattle.fip_tables.specs.Images.{present}
use Rattle.host_io.specs.Contents.{Directory}
use Rattle.flash_core.specs.{declared.flash.Arming.Arming, Counts.lowered_by}
use Rattle.fwu_formats.specs.{Layout.ImageRow, Package.Entry, Package.Toc, Package.entry_of, Layout.no_row}
use Rattle.fwu_model.specs.Call as call
use Rattle.fwu_model.specs.Reply as reply
use Rattle.slot_writer.specs.Writes.{writes_to_append, writes_to_finish}
use Rattle.agent_kept.specs.{declared.parts.Handle.TheVariants.Writes, Kept.part_at, Kept.handle_kept, Kept.size_of}
use Rattle.agent_machine.specs.{Ends.IsWriter, Moment.Moment}
use Rattle.update_client.specs.{Images.WritesImage, Images.no_entry, Images.sent_parts}
use Rattle.update_client.specs.Takes.{ImagesTake, PayloadPieceTakes, UnstagedTakes, UnwrittenTakes, writes_in, writes_sent}
use Rattle.update_client.proofs.{WrittenImage.WritesFirst, Staging.sent-long, Staging.sent-other, WrittenPiece.image-opened}
use Rattle.update_client.proofs.SentImages.{SendsFirst, take-next}
use Rattle.agent_calls.specs.Takes.{Takes, piece_at, pieces_of, writes_of_image, writes_of_pieces}
use Rattle.agent_calls.proofs.Pieces.{Pieces, next-piece, pieces-all, pieces-more, pieces-none}
use Rattle.agent_calls.proofs.Taking.{takes-none, takes-then}
use Rattle.agent_machine.proofs.{CallGoing.MeetsAs, Writer.writer, Writer.written}

-- ---- a piece

-- a write by the handle that writes the image
pub piece-takes : (at n : ℕ) (old : Moment) (armed arming : Option Arming)
    → ((image : ℕ) → handle_kept old.fields.session 0 ≡ Writes image
    → arming ≡ lowered_by (writes_to_append (size_of (part_at old.fields.session image)) n) armed) → PayloadPieceTakes at n old armed arming
piece-takes at n old armed arming lowered s boot parts image before below count shows =
    let size : size_of (part_at old.fields.session image) ≡ at = written old s boot parts image before below shows ∙ count in
    lowered image (writer old s boot parts image before below shows)
    ∙ ap (λ (m : ℕ). lowered_by (writes_to_append m n) armed) size

-- ---- an image, piece by piece

-- its first bytes, which are whole pieces or all
pub record FirstTaken (size : ℕ) (e : Entry) (at : ℕ) (old : Moment) (armed arming : Option Arming) : Type 0 where
  pub count : ℕ
  pub pieces : Pieces size e.size at count
  pub takes : UnwrittenTakes (writes_of_pieces size e.size count) e old armed arming

pub first-taken-none : (size : ℕ) (e : Entry) (m : Moment) (armed : Option Arming) → 0 < size → FirstTaken size e 0 m armed armed
first-taken-none size e m armed some = record {
  count = 0;
  pieces = pieces-none size e.size some;
  takes = λ E s boot parts image layout below room shows. takes-none armed;
}

pub first-taken-more : (told : Option Directory) (name : List ℕ) (size : ℕ) (e : Entry) (at n : ℕ) (old mid : Moment) (a b c : Option Arming)
    → at < e.size → n ≡ piece_at size e.size at
    → WritesFirst told name e at old mid → FirstTaken size e at old a b → PayloadPieceTakes at n mid b c → FirstTaken size e (at + n) old a c
first-taken-more told name size e at n old mid a b c more is first front piece =
    let here : at ≡ size * front.count = next-piece size e.size at front.count front.pieces more in
    let same : writes_to_append at n ≡ writes_to_append (size * front.count) (piece_at size e.size (size * front.count)) =
    ap (writes_to_append at) is ∙ ap (λ (m : ℕ). writes_to_append m (piece_at size e.size m)) here in
    record {
      count = suc front.count;
      pieces = pieces-more size e.size at front.count front.pieces n more is;
      takes = λ E s boot parts image layout below room shows.
          let one = first.goes E s boot parts image layout below room shows in
          takes-then (writes_of_pieces size e.size front.count) (writes_to_append at n)
          (writes_of_pieces size e.size (suc front.count)) a b c (ap (λ (w : ℕ). writes_of_pieces size e.size front.count + w) same)
          (front.takes E s boot parts image layout below room shows)
          (piece s boot parts image first.bytes below first.count one.shows);
    }

pub first-taken-all : (size : ℕ) (e : Entry) (at : ℕ) (old : Moment) (a b : Option Arming) → 0 < size → e.size ≤ at
    → FirstTaken size e at old a b → UnwrittenTakes (writes_of_pieces size e.size (pieces_of size e.size)) e old a b
first-taken-all size e at old a b some all front =
    subst (λ (k : ℕ). UnwrittenTakes (writes_of_pieces size e.size k) e old a b) (pieces-all size e.size at front.count front.pieces some all) front.takes

-- ---- an image

pub image-takes : (told : Option Directory) (name : List ℕ) (size : ℕ) (e : Entry) (h : ℕ) (old opened mid : Moment) (a b c : Option Arming)
    → ((passes : List ℕ → Bool) → MeetsAs {T = ℕ} (λ k. reply.Opened k) (Ok h) passes (call.OpenWrite e.guid) old opened)
    → WritesImage told name e (Ok tt) opened mid → UnwrittenTakes (writes_of_pieces size e.size (pieces_of size e.size)) e opened a b
    → ((image : ℕ) → IsWriter mid.fields 1 image → c ≡ lowered_by (writes_to_finish (size_of (part_at mid.fields.session image))) b)
    → UnstagedTakes (writes_of_image size e.size) e old a c
image-takes told name size e h old opened mid a b c opens wrote takes lowered E s boot parts image layout below found room none shows =
    let one = image-opened e.guid h old opened opens E s boot parts image layout below found none shows in
    let there = layout ∙ sym one.stays.layout in
    let two = wrote.goes E s boot parts image there below room one.shows in
    let long : size_of (part_at mid.fields.session image) ≡ e.size = written mid s boot parts image wrote.bytes below two.shows ∙ wrote.count in
    let ended : Takes (writes_to_finish e.size) b c =
    lowered image (omega arith, writer mid s boot parts image wrote.bytes below two.shows)
    ∙ ap (λ (m : ℕ). lowered_by (writes_to_finish m) b) long in
    takes-then (writes_of_pieces size e.size (pieces_of size e.size)) (writes_to_finish e.size) (writes_of_image size e.size) a b c refl
    (takes E s boot parts image there below room one.shows) ended

-- ---- the images

writes-append : (size : ℕ) (l m : List Entry) → writes_in size (l ++ m) ≡ writes_in size l + writes_in size m
writes-append size [] m = omega arith
writes-append size (e ∷ l) m = let rest = writes-append size l m in omega (arith, rest)

pub images-take-none : (size : ℕ) (entries : List Entry) (m : Moment) (armed : Option Arming) → ImagesTake size entries 0 m armed armed
images-take-none size entries m armed E s boot parts places layout are shows = takes-none armed

pub images-take-more : (told : Option Directory) (name : List ℕ) (size : ℕ) (entries : List Entry) (request k : ℕ) (old mid : Moment) (a b c : Option Arming)
    → k < length entries → SendsFirst told name entries request k old mid → ImagesTake size entries k old a b
    → UnstagedTakes (writes_of_image size (get_or entries k no_entry).size) (get_or entries k no_entry) mid b c → ImagesTake size entries (k + 1) old a c
images-take-more told name size entries request k old mid a b c below first takes image E s boot parts places layout are shows =
    let e = get_or entries k no_entry in
    let one = first.goes E s boot parts places layout are shows in
    let at : length first.images ≡ k = first.count in
    let bit = request == 0 in
    let now = sent_parts parts first.images places bit in
    let sum : writes_in size (take (k + 1) entries) ≡ writes_in size (take k entries) + writes_in size (e ∷ []) =
    ap (writes_in size) (take-next entries k below) ∙ writes-append size (take k entries) (e ∷ []) in
    takes-then (writes_in size (take k entries)) (writes_of_image size e.size) (writes_in size (take (k + 1) entries)) a b c (omega (arith, sum))
    (takes E s boot parts places layout are shows)
    (image E s boot now (get_or places k 0) (layout ∙ sym one.stays.layout)
    (omega (arith, are.below k below, sent-long parts first.images places bit)) (are.found k below) (are.fit k below)
    (sent-other parts first.images places bit (get_or places k 0) (omega (arith, at, below, are.count))
    (λ j less. are.apart j k (omega (arith, less, at)) below) ∙ are.empty k below) one.shows)

pub images-take-all : (size : ℕ) (entries : List Entry) (k : ℕ) (old : Moment) (a b : Option Arming) → length entries ≤ k
    → ImagesTake size entries k old a b → ImagesTake size entries (length entries) old a b
images-take-all size entries k old a b all takes E s boot parts places layout are shows =
    subst (λ (l : List Entry). Takes (writes_in size l) a b) (take_all k entries all ∙ sym (take_all (length entries) entries (omega arith)))
    (takes E s boot parts places layout are shows)

-- the entries are those of the types of the images
pub writes-chosen : (size : ℕ) (rows : List ImageRow) (toc : Toc) (entries : List Entry) → length entries ≡ length rows
    → ((k : ℕ) → k < length rows → entry_of toc (get_or rows k no_row).guid ≡ Some (get_or entries k no_entry))
    → writes_in size entries ≡ writes_sent size rows toc
writes-chosen size [] toc [] count each = refl
writes-chosen size [] toc (e ∷ es) count each = absurd (omega (arith, count))
writes-chosen size (r ∷ rows) toc [] count each = absurd (omega (arith, count))
writes-chosen size (r ∷ rows) toc (e ∷ es) count each =
    let here : writes_in size (cons_option (entry_of toc r.guid) (present rows toc)) ≡ writes_of_image size e.size + writes_sent size rows toc =
    ap (λ (o : Option Entry). writes_in size (cons_option o (present rows toc))) (each 0 (omega arith)) in
    let rest = writes-chosen size rows toc es (omega (arith, count)) (λ k lt. each (suc k) (omega (arith, lt))) in
    omega (arith, here, rest)
