-- What lanes that hash the images of a bank side by side have taken in, and what they keep from one step to the next.
use Rattle.std.proofs.Common.{◌≡◌, ◌≢◌, ℕ, zero, suc, ◌+◌, ◌-◌, ◌*◌, ◌%◌, ◌<◌, ◌≤◌, true, false, Bool, List, [], ◌∷◌, length, slice_index_or, slice_set, Option, Some, None, refl, sym, ap, ◌∙◌, subst, arith, inl, inr, Ok, ◌++◌, take, drop, ap₂, take-add, length-append}
use Rattle.std.proofs.lemmas.Bool.{cases_eq, cases_lt}
use Rattle.std.proofs.lemmas.List.{get_or-set_other, get_or-set_same, drop-drop}
use Rattle.std.specs.Option.{ForSome}
use Rattle.std.specs.Prelude.{IsTrue, IfSome, slice_range}
use Rattle.base_core.specs.Block.{block_bytes}
use Rattle.flash_core.specs.{Calls.Reads, Told.Told, declared.flash.Flash.Ghosts}
use Rattle.fwu_formats.specs.Layout.{ImageRow, no_row, slot_total}
use Rattle.sha256_lanes.specs.{Holding.HoldsInLane, Holding.GoesOnAs, declared.lanes.Lanes.Lanes, declared.alone.Message.Message}
use Rattle.image_check.specs.{Verdict.place, declared.image.Images.Images, declared.image.Job.Job, declared.side.Work.Work}
use Rattle.image_check.specs.Taken.{AreReadable, HasNoLane, HasRow, HasTaken, HaveGoneOn, HaveStepped, IsBegun, IsFoundAt, IsLowestBad, IsPieceOfJobs, IsUnderWay, gone_on, is_good_in, job_at, left, new_job}
use Rattle.image_check.proofs.{Lowest.none_found, Lowest.one_found, Sums.total_more, Sums.total_more_le}

-- nothing but reads was done so far, and a message has taken in so many bytes of a range
pub record HasGoneOn {D : Type 0} (g : Ghosts D) (old new : D) (message : Message) (at count done : ℕ) : Type 0 where
  pub small : done ≤ count
  pub reads : Reads {X = Unit {0}} g (Ok tt) old new
  pub taken : HasTaken g old at done (GoesOnAs message)

-- what is done of a range, and one more piece of it
pub joined : (image piece : List ℕ) (at done n : ℕ) → piece ≡ slice_range image (at + done) (at + done + n) → take done (drop at image) ++ piece ≡ take (done + n) (drop at image)
joined image piece at done n told =
    let front = take done (drop at image) in
    let span : at + done + n - (at + done) ≡ n = omega arith in
    ap (λ (l : List ℕ). front ++ l) (told ∙ ap (λ (k : ℕ). take k (drop (at + done) image)) span ∙ ap (take n) (sym (drop-drop done at image)))
    ∙ sym (take-add done n (drop at image))

-- what a read gives of the range, by what is told before all of them
pub piece_told : (old mid : Told) (piece : List ℕ) (at done asked n : ℕ) → piece ≡ slice_range mid.now (at + done) (at + done + asked)
    → asked ≡ n → mid ≡ old → piece ≡ slice_range old.now (at + done) (at + done + n)
piece_told old mid piece at done asked n told size same =
    told ∙ ap (λ (k : ℕ). slice_range mid.now (at + done) (at + done + k)) size ∙ ap (λ (t : Told). slice_range t.now (at + done) (at + done + n)) same

-- one more piece
pub taken_more : {D : Type 0} (g : Ghosts D) (d : D) (at : ℕ) (holds next : List ℕ → Type 0) (piece : List ℕ) (done n : ℕ) → HasTaken g d at done holds
    → length piece ≡ n → (IsTrue g.tells → piece ≡ slice_range (g.told d).now (at + done) (at + done + n))
    → ((m : List ℕ) → holds m → next (m ++ piece)) → HasTaken g d at (done + n) next
taken_more g d at holds next piece done n taken size told adds = record {
  bytes = taken.bytes ++ piece;
  size = length-append taken.bytes piece ∙ ap₂ ◌+◌ taken.size size;
  held = adds taken.bytes taken.held;
  told = λ tells. ap (λ (l : List ℕ). l ++ piece) (taken.told tells) ∙ joined (g.told d).now piece at done n (told tells);
}

-- one more piece in a lane
pub lane_more : {D : Type 0} (g : Ghosts D) (d mid : D) (images : Images) (o : Option Job) (j : ℕ) (lanes next : Lanes) (piece : List ℕ) (asked n : ℕ)
    → ForSome o (IsBegun g d images (HoldsInLane j lanes)) → length piece ≡ n → asked ≡ n → (IsTrue g.tells → g.told mid ≡ g.told d)
    → ForSome o (λ job. IsTrue g.tells → piece ≡ slice_range (g.told mid).now (job.at + job.done) (job.at + job.done + asked))
    → ((m : List ℕ) → HoldsInLane j lanes m → HoldsInLane j next (m ++ piece))
    → ForSome o (λ job. HasTaken g d job.at (job.done + n) (HoldsInLane j next))
lane_more g d mid images o j lanes next piece asked n begun size same_size same told adds = λ job is.
    taken_more g d job.at (HoldsInLane j lanes) (HoldsInLane j next) piece job.done n (begun job is).taken size
    (λ tells. piece_told (g.told d) (g.told mid) piece job.at job.done asked n (told job is tells) same_size (same tells)) adds

-- the same from a hasher that holds the same
pub taken_by : {D : Type 0} (g : Ghosts D) (d : D) (at done : ℕ) (holds next : List ℕ → Type 0) → ((m : List ℕ) → holds m → next m)
    → HasTaken g d at done holds → HasTaken g d at done next
taken_by g d at done holds next keeps taken = record { bytes = taken.bytes; size = taken.size; held = keeps taken.bytes taken.held; told = taken.told }

-- a device that tells the same
pub taken_here : {D : Type 0} (g : Ghosts D) (old new : D) (at done : ℕ) (holds : List ℕ → Type 0) → (IsTrue g.tells → g.told new ≡ g.told old)
    → HasTaken g old at done holds → HasTaken g new at done holds
taken_here g old new at done holds same taken = record {
  bytes = taken.bytes;
  size = taken.size;
  held = taken.held;
  told = λ tells. taken.told tells ∙ ap (λ (t : Told). take done (drop at t.now)) (sym (same tells));
}

-- what holds of each of the four lanes
pub of_lanes : (P : ℕ → Type 0) → P 0 → P 1 → P 2 → P 3 → (j : ℕ) → j < 4 → P j
of_lanes P p0 p1 p2 p3 zero h = p0
of_lanes P p0 p1 p2 p3 (suc zero) h = p1
of_lanes P p0 p1 p2 p3 (suc (suc zero)) h = p2
of_lanes P p0 p1 p2 p3 (suc (suc (suc zero))) h = p3
of_lanes P p0 p1 p2 p3 (suc (suc (suc (suc n)))) h = absurd (omega arith)

-- ---- one lane

-- a lane that has an image is one of the lanes
within_lanes : (jobs : List (Option Job)) (j : ℕ) (job : Job) → job_at jobs j ≡ Some job → j < length jobs
within_lanes [] j job is = absurd cc
within_lanes (o ∷ jobs) zero job is = omega arith
within_lanes (o ∷ jobs) (suc j) job is = let more = within_lanes jobs j job is in omega arith

-- when one lane is free, each other has what it had
freed_at : (jobs : List (Option Job)) (j : ℕ) (was : Job) → job_at jobs j ≡ Some was → job_at (slice_set jobs j None) j ≡ None
freed_at jobs j was is = get_or-set_same jobs j None None (within_lanes jobs j was is)

-- an image that a lane has when another is free, it had before
kept : (jobs : List (Option Job)) (j i : ℕ) (was job : Job) → job_at jobs j ≡ Some was → job_at (slice_set jobs j None) i ≡ Some job → job_at jobs i ≡ Some job
kept jobs j i was job is then = elim (cases_eq i j) [
  | inl same ↦ let none : job_at (slice_set jobs j None) i ≡ None = ap (job_at (slice_set jobs j None)) same ∙ freed_at jobs j was is in absurd cc
  | inr other ↦ sym (get_or-set_other jobs j i None None other) ∙ then
]

-- an image that no lane has when one is free, no lane had before, but for the one that this lane had
freed : (jobs : List (Option Job)) (j k : ℕ) (was : Job) → job_at jobs j ≡ Some was → k ≢ was.row
    → HasNoLane k (slice_set jobs j None) → HasNoLane k jobs
freed jobs j k was is ne free i lt has = elim (cases_eq i j) [
  | inl same ↦ let here : was.row ≡ k = subst (HasRow k) (ap (job_at jobs) same ∙ is) has in ne (sym here)
  | inr other ↦ free i lt (subst (HasRow k) (sym (get_or-set_other jobs j i None None other)) has)
]

row_moved : (k count : ℕ) (o : Option Job) → HasRow k o → HasRow k (gone_on count o)
row_moved k count None has = has
row_moved k count (Some job) has = has

-- a lane that took in so many bytes more
lane_gone_on : {D : Type 0} (g : Ghosts D) (d : D) (images : Images) (was now : List ℕ → Type 0) (count : ℕ) (o : Option Job)
    → ForSome o (IsBegun g d images was) → ForSome o (λ job. HasTaken g d job.at (job.done + count) now) → count ≤ left o
    → (job : Job) → gone_on count o ≡ Some job → IsBegun g d images now job
lane_gone_on g d images was now count None before more enough job e = absurd cc
lane_gone_on g d images was now count (Some first) before more enough job e =
    let is : record first { done = first.done + count } ≡ job = cc in
    let there = before first refl in
    subst (IsBegun g d images now) is (record {
      within = there.within;
      at = there.at;
      size = there.size;
      small = omega (arith, there.small, enough);
      taken = more first refl;
    })

-- the room that an image has
pub block_fits : {D : Type 0} (g : Ghosts D) (d : D) (images : Images) (any : ImageRow) (block next : ℕ) → AreReadable g d images
    → next + 1 < length images.rows.now → block ≡ place images.rows.now images.first (next + 1)
    → block + (slice_index_or images.rows.now (next + 1) any).slots ≤ g.blocks d
block_fits g d images any block next readable within begins =
    omega (arith, total_more_le images.rows.now (next + 1) any within, begins, readable.there.inside)

pub job_inside : {D : Type 0} (g : Ghosts D) (d : D) (images : Images) (holds : List ℕ → Type 0) (job : Job) → AreReadable g d images → IsBegun g d images holds job
    → job.at + job.size ≤ block_bytes * g.blocks d
job_inside g d images holds job readable begun =
    let within : job.row + 1 < length images.rows.now = omega (arith, begun.within) in
    let fits = block_fits g d images no_row (place images.rows.now images.first (job.row + 1)) job.row readable within refl in
    omega (arith, fits, begun.at, begun.size, readable.sizes job.row no_row within)

-- the same from a hasher that holds the same
pub begun_by : {D : Type 0} (g : Ghosts D) (d : D) (images : Images) (holds next : List ℕ → Type 0) (job : Job) → ((m : List ℕ) → holds m → next m)
    → IsBegun g d images holds job → IsBegun g d images next job
begun_by g d images holds next job keeps there = record {
  within = there.within;
  at = there.at;
  size = there.size;
  small = there.small;
  taken = taken_by g d job.at job.done holds next keeps there.taken;
}

-- before anything of an image is taken in
pub begun_new : {D : Type 0} (g : Ghosts D) (d : D) (images : Images) (holds : List ℕ → Type 0) (k block : ℕ) → k + 1 < length images.rows.now
    → block ≡ place images.rows.now images.first (k + 1) → holds [] → IsBegun g d images holds (new_job images k block)
begun_new g d images holds k block within begins empty = record {
  within = omega (arith, within);
  at = ap (λ (b : ℕ). block_bytes * b) begins;
  size = refl;
  small = omega arith;
  taken = record { bytes = []; size = refl; held = empty; told = λ tells. refl };
}

-- ---- after reads

module _ {D : Type 0} (g : Ghosts D) (old new : D) (same : IsTrue g.tells → g.told new ≡ g.told old) (images : Images) where
  pub found_here : (k : ℕ) (good : Bool) → IsFoundAt g old images k good → IsFoundAt g new images k good
  found_here k good found = record {
    told = λ tells. found.told tells ∙ ap (λ (t : Told). is_good_in t.now images k) (sym (same tells));
    some = found.some;
  }

  begun_here : (holds : List ℕ → Type 0) (job : Job) → IsBegun g old images holds job → IsBegun g new images holds job
  begun_here holds job begun = record {
    within = begun.within;
    at = begun.at;
    size = begun.size;
    small = begun.small;
    taken = taken_here g old new job.at job.done holds same begun.taken;
  }

module _ {D X : Type 0} (g : Ghosts D) (x : X) (old new : D) (reads : Reads g (Ok x) old new) where
  pub readable_after : (images : Images) → AreReadable g old images → AreReadable g new images
  readable_after images readable =
      let there = readable.there in
      record {
        there = record {
          on = reads.power;
          some = there.some;
          few = there.few;
          manifest = there.manifest;
          inside = subst (λ (b : ℕ). images.first + slot_total images.rows.now ≤ b) (sym reads.size) there.inside;
        };
        sizes = readable.sizes;
      }

  pub under_way_after : (work : Work) → IsUnderWay g old work → IsUnderWay g new work
  under_way_after work way = record {
    readable = readable_after work.images way.readable;
    most = way.most;
    bad = λ under. found_here g old new reads.content work.images work.bad false (way.bad under);
    good = λ k below low free. found_here g old new reads.content work.images k true (way.good k below low free);
    lanes_are = λ j lt job is. begun_here g old new reads.content work.images (HoldsInLane j work.lanes) job (way.lanes_are j lt job is);
    begins = way.begins;
  }

  pub stepped_after : (work after : Work) → HaveStepped g old work after → HaveStepped g new work after
  stepped_after work after step =
      record { under_way = under_way_after after step.under_way; images = step.images; next = step.next; bad = step.bad; free = step.free }

-- ---- all lanes

-- the lane with the fewest bytes left, and how many all lanes take in next; none where it has no image, or is at its last block
pub record IsNextPiece (jobs : List (Option Job)) (j size : ℕ) : Type 0 where
  pub lane : j < 4
  pub least : (i : ℕ) → i < 4 → left (job_at jobs j) ≤ left (job_at jobs i)
  pub whole : size % 64 ≡ 0
  pub few : size ≤ block_bytes
  pub within : IfSome (job_at jobs j) (λ job. 0 < size → job.done + size < job.size)
  pub none : job_at jobs j ≡ None → size ≡ 0

left_less : (size : ℕ) (o : Option Job) → 0 < size → IfSome o (λ job. 0 < size → job.done + size < job.size) → (o ≡ None → size ≡ 0)
    → left (gone_on size o) < left o
left_less size None some within none = absurd (omega (arith, some, none refl))
left_less size (Some job) some within none = omega (arith, some, within some)

-- the fewest bytes that are left are fewer then
pub next_less : (jobs after : List (Option Job)) (j size next : ℕ) → IsNextPiece jobs j size → 0 < size → HaveGoneOn size jobs after
    → ((i : ℕ) → i < 4 → left (job_at after next) ≤ left (job_at after i)) → left (job_at after next) < left (job_at jobs j)
next_less jobs after j size next piece some gone least =
    omega (arith, least j piece.lane, ap left (gone j piece.lane), left_less size (job_at jobs j) some piece.within piece.none)

module _ {D : Type 0} (g : Ghosts D) (d : D) (work : Work) (way : IsUnderWay g d work) where
  -- what a lane reads next lies in its image, and that on the device
  pub piece_inside : (size j : ℕ) (job : Job) → IsPieceOfJobs work.jobs size → j < 4 → job_at work.jobs j ≡ Some job → job.at + job.done + size ≤ block_bytes * g.blocks d
  piece_inside size j job piece lt is =
      let there = way.lanes_are j lt job is in
      let enough : size ≤ job.size - job.done = subst (λ (o : Option Job). size ≤ left o) is (piece.enough j lt) in
      omega (arith, enough, there.small, job_inside g d work.images (HoldsInLane j work.lanes) job way.readable there)

  -- the lanes took in so many bytes more
  pub moved : (lanes : Lanes) (jobs : List (Option Job)) (count : ℕ) → HaveGoneOn count work.jobs jobs → ((j : ℕ) → j < 4 → count ≤ left (job_at work.jobs j))
      → ((j : ℕ) → j < 4 → ForSome (job_at work.jobs j) (λ job. HasTaken g d job.at (job.done + count) (HoldsInLane j lanes)))
      → HaveStepped g d work (record work { lanes = lanes; jobs = jobs })
  moved lanes jobs count gone enough taken = record {
    under_way = record {
      readable = way.readable;
      most = way.most;
      bad = way.bad;
      good = λ k below low free. way.good k below low (λ i lt has. free i lt (subst (HasRow k) (sym (gone i lt)) (row_moved k count (job_at work.jobs i) has)));
      lanes_are = λ j lt job is.
          lane_gone_on g d work.images (HoldsInLane j work.lanes) (HoldsInLane j lanes) count (job_at work.jobs j) (way.lanes_are j lt) (taken j lt) (enough j lt) job
          (sym (gone j lt) ∙ is);
      begins = way.begins;
    };
    images = refl;
    next = refl;
    bad = omega arith;
    free = λ j lt none. gone j lt ∙ ap (gone_on count) none;
  }

  -- the image of a lane is judged, and the lane is free
  pub settled : (j : ℕ) (job : Job) (after : ℕ) → job_at work.jobs j ≡ Some job → after ≤ work.bad
      → (after < work.bad → (after ≡ job.row) × IsFoundAt g d work.images job.row false) → (job.row < after → IsFoundAt g d work.images job.row true)
      → HaveStepped g d work (record work { jobs = slice_set work.jobs j None; bad = after })
  settled j job after is less bad good = record {
    under_way = record {
      readable = way.readable;
      most = omega (arith, less, way.most);
      bad = λ under. elim (cases_lt after work.bad) [
        | inl lower ↦ let found = bad lower in subst (λ (k : ℕ). IsFoundAt g d work.images k false) (sym found.0) found.1
        | inr over ↦
            let same : after ≡ work.bad = omega arith in
            subst (λ (k : ℕ). IsFoundAt g d work.images k false) (sym same) (way.bad (omega (arith, under, same)))
      ];
      good = λ k below low free. elim (cases_eq k job.row) [
        | inl same ↦ subst (λ (r : ℕ). IsFoundAt g d work.images r true) (sym same) (good (omega (arith, low, same)))
        | inr other ↦ way.good k below (omega (arith, low, less)) (freed work.jobs j k job is other free)
      ];
      lanes_are = λ i low other then. way.lanes_are i low other (kept work.jobs j i job other is then);
      begins = way.begins;
    };
    images = refl;
    next = refl;
    bad = less;
    free = λ i lt none. elim (cases_eq i j) [
      | inl same ↦ ap (job_at (slice_set work.jobs j None)) same ∙ freed_at work.jobs j job is
      | inr other ↦ get_or-set_other work.jobs j i None None other ∙ none
    ];
  }

  -- a free lane took the next image
  pub begun : (j : ℕ) (lanes : Lanes) (jobs : List (Option Job)) (block : ℕ) (any : ImageRow) → j < 4 → job_at work.jobs j ≡ None → work.next + 1 < length work.images.rows.now
      → job_at jobs j ≡ Some (new_job work.images work.next work.block) → ((i : ℕ) → i ≢ j → job_at jobs i ≡ job_at work.jobs i) → HoldsInLane j lanes []
      → ((i : ℕ) → i < 4 → i ≢ j → (m : List ℕ) → HoldsInLane i work.lanes m → HoldsInLane i lanes m)
      → block ≡ work.block + (slice_index_or work.images.rows.now (work.next + 1) any).slots
      → IsUnderWay g d (record work { lanes = lanes; jobs = jobs; next = work.next + 1; block = block })
  begun j lanes jobs block any lt none within taken others empty keeps next_block = record {
    readable = way.readable;
    most = way.most;
    bad = way.bad;
    good = λ k below low free. elim (cases_eq k work.next) [
      | inl same ↦ absurd (free j lt (subst (HasRow k) (sym taken) (sym same)))
      | inr other ↦ way.good k (omega (arith, below, other)) low (not_before k free)
    ];
    lanes_are = λ i low job is. elim (cases_eq i j) [
      | inl same ↦
          subst (IsBegun g d work.images (HoldsInLane i lanes)) (this i job same is)
          (begun_new g d work.images (HoldsInLane i lanes) work.next work.block within way.begins (subst (λ (k : ℕ). HoldsInLane k lanes []) (sym same) empty))
      | inr other ↦
          begun_by g d work.images (HoldsInLane i work.lanes) (HoldsInLane i lanes) job (keeps i low other) (way.lanes_are i low job (sym (others i other) ∙ is))
    ];
    begins = let more = total_more work.images.rows.now (work.next + 1) any within in omega (arith, more, way.begins, next_block);
  }
    where
      this : (i : ℕ) (job : Job) → i ≡ j → job_at jobs i ≡ Some job → new_job work.images work.next work.block ≡ job
      this i job same is = let here = sym taken ∙ sym (ap (job_at jobs) same) ∙ is in cc

      not_before : (k : ℕ) → HasNoLane k jobs → HasNoLane k work.jobs
      not_before k free i low has = elim (cases_eq i j) [
        | inl same ↦ subst (HasRow k) (ap (job_at work.jobs) same ∙ none) has
        | inr other ↦ free i low (subst (HasRow k) (sym (others i other)) has)
      ]

  -- in the end each image below the lowest bad one was judged
  module _ (old : D) (images : Images) (same : IsTrue g.tells → g.told old ≡ g.told d) (is : work.images ≡ images) (all : work.bad ≤ work.next)
      (free : (i : ℕ) → i < 4 → job_at work.jobs i ≡ None) where
    back : (k : ℕ) (good : Bool) → IsFoundAt g d work.images k good → IsFoundAt g old images k good
    back k good found = found_here g d old same images k good (subst (λ (i : Images). IsFoundAt g d i k good) is found)

    all_good : (k : ℕ) → k < work.bad → IsFoundAt g old images k true
    all_good k low = back k true (way.good k (omega (arith, all, low)) low (λ i lt has. subst (HasRow k) (free i lt) has))

    pub lowest_some : work.bad < length images.rows.now - 1 → IsLowestBad g old images (Some (work.bad + 1))
    lowest_some under =
        let count = ap (λ (i : Images). length i.rows.now) is in
        one_found g old images work.bad under all_good (back work.bad false (way.bad (omega (arith, under, count))))

    pub lowest_none : length images.rows.now - 1 ≤ work.bad → IsLowestBad g old images None
    lowest_none over = none_found g old images (λ k low. all_good k (omega (arith, low, over)))
