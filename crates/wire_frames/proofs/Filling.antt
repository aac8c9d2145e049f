-- Pieces that come one after the other, and the frame that they make.
use Rattle.std.proofs.Common.{◌≡◌, ℕ, suc, ◌+◌, ◌*◌, ◌/◌, ◌%◌, ◌<◌, ◌≤◌, Bool, true, false, List, [], ◌∷◌, ◌++◌, length, get_or, take, drop, Option, Err, refl, sym, ap, subst, ◌∙◌, inr, arith, append_assoc, length-append, take-append-drop}
use Rattle.std.specs.Io.KnownBytes.{Consumes}
use Rattle.std.proofs.KnownBytes.{Consumes-trans}
use Rattle.std.proofs.lemmas.List.{length-take-le, take_all, take_at}
use Rattle.base_core.specs.Bytes.{le, num, num_at}
use Rattle.host_io.specs.{Once.ReadsOnce, declared.source.Source.Ghosts}
use Rattle.wire_frames.specs.{declared.stream.Cut.Cut, declared.stream.FrameStop.FrameStop, Frames.IsPartialFrame, Frames.frame}
use Rattle.wire_frames.specs.Stream.{CutsShort, ReadsFrame, ReadsSource, StopsReading, stop_by, stop_faults}
use Rattle.wire_frames.specs.declared.stream.Cut.TheVariants as cut

-- the front of a buffer, with bytes that came behind it
pub taken-more : (at n : ℕ) (out new tail : List ℕ) → at ≤ length out → n ≤ length new → take (at + n) (take at out ++ (new ++ tail)) ≡ take at out ++ take n new
taken-more at n out new tail within few =
    let front = length-take-le at out within in
    let piece = length-take-le n new few in
    let parts : take at out ++ (new ++ tail) ≡ (take at out ++ take n new) ++ (drop n new ++ tail) =
    ap (λ (l : List ℕ). take at out ++ (l ++ tail)) (sym (take-append-drop n new))
    ∙ ap (λ (l : List ℕ). take at out ++ l) (append_assoc (take n new) (drop n new) tail)
    ∙ sym (append_assoc (take at out) (take n new) (drop n new ++ tail)) in
    ap (take (at + n)) parts ∙ take_at (take at out ++ take n new) (drop n new ++ tail) (at + n) (omega (arith, length-append (take at out) (take n new), front, piece))

-- bytes are those of their number
le-num : (bytes : List ℕ) → ((i : ℕ) → get_or bytes i 0 < 256) → le (length bytes) (num bytes) ≡ bytes
le-num [] fit = refl
le-num (b ∷ bytes) fit =
    let low : (b + 256 * num bytes) % 256 ≡ b = let f = fit 0 in omega (arith, f) in
    let high : (b + 256 * num bytes) / 256 ≡ num bytes = let f = fit 0 in omega (arith, f) in
    rw (low, high) (ap (λ (l : List ℕ). b ∷ l) (le-num bytes (λ i. fit (suc i))))

pub le-four : (bytes : List ℕ) → length bytes ≡ 4 → ((i : ℕ) → get_or bytes i 0 < 256) → le 4 (num bytes) ≡ bytes
le-four bytes four fit = ap (λ (n : ℕ). le n (num bytes)) (sym four) ∙ le-num bytes fit

-- a frame was read: a length, and so many bytes
pub reads-frame : (head out rest body : List ℕ) (n taken mid now : ℕ) (a b c : Option (List ℕ)) → length head ≡ 4 → le 4 n ≡ head → 8 ≤ n → n ≤ 4108
    → length out ≡ n → body ≡ take n (out ++ rest) → Consumes a b head → Consumes b c out → mid ≡ taken + length head → now ≡ mid + length out → ReadsFrame body taken now a c
unfolding frame
reads-frame head out rest body n taken mid now a b c four spelled some few size body_is first then before after =
    let same : body ≡ out = body_is ∙ take_at out rest n size in
    let whole : head ++ out ≡ le 4 (length out) ++ out = ap (λ (l : List ℕ). l ++ out) (sym spelled ∙ ap (le 4) (sym size)) in
    subst (λ (l : List ℕ). ReadsFrame l taken now a c) (sym same) (record {
      is = record { some = omega (arith, size, some); few = omega (arith, size, few) };
      consumed = subst (Consumes a c) whole (Consumes-trans a b c head out first then);
      count = let long = length-append head out in let same_length = ap length whole in omega (arith, before, after, long, same_length);
    })

-- ---- what is cut short

-- a read that gave no value
pub read-none : {I T : Type 0} (g : Ghosts I) (old new : I) (why : FrameStop) → g.faults new ≡ stop_faults {T = T} (Err why) (g.faults old) → g.faults old ≤ g.faults new
    → ReadsOnce g old new → ReadsSource {T = T} g old new (Err why)
read-none g old new why faults later once = record { faults = faults; later = later; goes = tt; once = once }

-- other bytes came before it
pub cuts-behind : (why : Cut) (bytes got : List ℕ) (taken mid now : ℕ) (a b c : Option (List ℕ)) → Consumes a b bytes → mid ≡ taken + length bytes → CutsShort why got mid now b c → CutsShort why (bytes ++ got) taken now a c
cuts-behind cut.Ended bytes got taken mid now a b c first sum (came, ended, count) =
    (Consumes-trans a b c bytes got first came, ended, omega (arith, sum, count, length-append bytes got))
cuts-behind cut.TooLong bytes got taken mid now a b c first sum (x, came, count, most) =
    (x, subst (Consumes a c) (sym (append_assoc bytes got (x ∷ []))) (Consumes-trans a b c bytes (got ++ x ∷ []) first came), omega (arith, sum, count, length-append bytes got), most)
cuts-behind cut.Failed bytes got taken mid now a b c first sum (came, count) =
    (Consumes-trans a b c bytes got first came, omega (arith, sum, count, length-append bytes got))

-- what was taken where no whole frame came
pub stops-by : (why : Cut) (bytes : List ℕ) (taken now : ℕ) (between : Bool) (a c : Option (List ℕ)) → CutsShort why bytes taken now a c → IsPartialFrame bytes
    → (between ≡ true → bytes ≡ []) → (between ≡ false → 1 ≤ length bytes) → StopsReading (stop_by why between) taken now a c
stops-by cut.Ended bytes taken now true a c (came, ended, count) part none some = (subst (Consumes a c) (none refl) came, ended, omega (arith, count, ap length (none refl)))
stops-by cut.Ended bytes taken now false a c (came, ended, count) part none some = (bytes, came, count, inr (part, some refl, ended))
stops-by cut.TooLong bytes taken now between a c (b, came, count, most) part none some = (bytes, b, part, came, count, most)
stops-by cut.Failed bytes taken now between a c (came, count) part none some = (bytes, part, came, count)

-- a length, and fewer bytes than it says
pub partial-body : (head got : List ℕ) (n : ℕ) → length head ≡ 4 → n ≡ num_at 4 head 0 → 8 ≤ n → n ≤ 4108 → length got < n → IsPartialFrame (head ++ got)
partial-body head got n four is some few less =
    let same : num_at 4 (head ++ got) 0 ≡ n = ap num (take_at head got 4 four ∙ sym (take_all 4 head (omega (arith, four)))) ∙ sym is in
    let long = length-append head got in
    inr (record { some = omega (arith, same, some); few = omega (arith, same, few) }, omega (arith, same, long, four, less))
