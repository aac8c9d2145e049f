-- Steps that are done one after the other, and the steps of `unpack`.
use Rattle.std.proofs.Common.{◌≡◌, ◌≢◌, ◌⊎◌, inl, inr, ◌≤◌, ◌<◌, ◌+◌, ℕ, zero, suc, Bool, true, false, List, [], ◌∷◌, ◌++◌, Option, Some, None, Result, Ok, Err, length, take, drop, filter, get_or, arith, refl, sym, ap, subst, ◌∙◌, append-nil, append_assoc, take-append-drop, eq-eqb, true≢false}
use Rattle.std.specs.Prelude.{cond, codes, decimal, ◌==◌, ◌||◌, IsTrue, if◌then◌else◌, unwrap_or}
use Rattle.std.specs.List.{All}
use Rattle.std.proofs.Math.Seq.{get_or-append_seam, take-append_seam, drop-append_seam, take-append-add, drop-append-add}
use Rattle.std.proofs.lemmas.List.{drop_more, length-append, take_all, take_more}
use Rattle.std.proofs.lemmas.Bool.{and_from}
use Rattle.std.proofs.lemmas.Bool.Decides.{nat_tests}
use Rattle.std.proofs.lemmas.Slice.Eq.{bytes_eq-Decides}
use Rattle.base_core.specs.{Bytes.same_bytes, Guid.guid_of, Guid.guid_text}
use Rattle.base_core.proofs.Spelled.{same_is, same_refl}
use Rattle.fip_words.specs.Values.{bin, is_lower_guid, is_unpacked}
use Rattle.std.proofs.lemmas.List.Elements.{filter-append, filter_passes}
use Rattle.std.specs.Str.{bytes_eq}
use Rattle.std.specs.Io.KnownBytes.{Appends}
use Rattle.std.proofs.KnownBytes.{Appends-trans}
use Rattle.host_io.specs.{Access.Access, Contents.Directory}
use Rattle.host_io.specs.Access as way
use Rattle.fip_tables.specs.Files.{Lacks, Tells}
use Rattle.fwu_formats.specs.Package.{Entry, payload, Toc}
use Rattle.fip_tool.specs.{Lines.unpacked_line, Lines.unpacked_name, Names.MakesNoneFor, Tool.chosen, Tool.unpack_steps, Tool.unpack_value}
use Rattle.fip_tool.specs.Steps.{IsPrinting, Makes, Refuses, CommandStep, Writes, Prints, Are, AreUpTo, StandAfter, Did, half_printed, printed, with_file, with_steps}
use Rattle.fip_making.specs.{Values.has_type_among, declared.stops.Stop.Stop}
use Rattle.fip_making.specs.declared.stops.Stop.TheVariants as stop
use Rattle.fip_tool.proofs.Did.{are-up-to, did-later}
use Rattle.fip_making.proofs.Repacking.{IsOpened, going-on, stopped, table_with}

-- ---- steps one after the other

written-append : (first second : List CommandStep) (files : Directory) → with_steps (first ++ second) files ≡ with_steps second (with_steps first files)
written-append [] second files = refl
written-append (Writes name bytes ∷ first) second files = written-append first second (with_file name bytes files)
written-append (Prints text ∷ first) second files = written-append first second files

printed-append : (first second : List CommandStep) → printed (first ++ second) ≡ printed first ++ printed second
printed-append [] second = refl
printed-append (Writes name bytes ∷ first) second = printed-append first second
printed-append (Prints text ∷ first) second = ap (λ (l : List ℕ). text ++ l) (printed-append first second) ∙ sym (append_assoc text (printed first) (printed second))

written-along : (steps : List CommandStep) (a b : Directory) → ((name : List ℕ) → a name ≡ b name) → (name : List ℕ) → with_steps steps a name ≡ with_steps steps b name
written-along [] a b h other = h other
written-along (Prints text ∷ steps) a b h other = written-along steps a b h other
written-along (Writes name bytes ∷ steps) a b h other =
    written-along steps (with_file name bytes a) (with_file name bytes b) (λ o. ap (λ (x : Option (List ℕ)). if bytes_eq name o then Some bytes else x) (h o)) other

are-along : (a b : Directory) (now : Option Directory) → ((name : List ℕ) → a name ≡ b name) → Are now a → Are now b
are-along a b None h are = absurd are
are-along a b (Some now) h are = λ name. are name ∙ h name

are-up-to-along : (rest : List CommandStep) (a b : Directory) (now : Option Directory) → ((name : List ℕ) → a name ≡ b name) → AreUpTo rest now a → AreUpTo rest now b
are-up-to-along [] a b now h are = are-along a b now h are
are-up-to-along (Prints text ∷ rest) a b now h are = are-along a b now h are
are-up-to-along (Writes name bytes ∷ rest) a b None h are = absurd are
are-up-to-along (Writes name bytes ∷ rest) a b (Some now) h are = λ other differs. are other differs ∙ h other

-- these steps are done
pub record IsDone (steps : List CommandStep) (files now : Directory) (was text : Option (List ℕ)) : Type 0 where
  pub are : (name : List ℕ) → now name ≡ with_steps steps files name
  pub said : Appends was text (printed steps)

written-then : (first steps : List CommandStep) (files mid : Directory) → ((name : List ℕ) → mid name ≡ with_steps first files name)
    → (name : List ℕ) → with_steps steps mid name ≡ with_steps (first ++ steps) files name
written-then first steps files mid are name =
    written-along steps mid (with_steps first files) are name ∙ sym (ap (λ (d : Directory). d name) (written-append first steps files))

said-then : (first steps : List CommandStep) (was at text : Option (List ℕ)) → Appends was at (printed first) → Appends at text (printed steps) → Appends was text (printed (first ++ steps))
said-then first steps was at text a b = subst (Appends was text) (sym (printed-append first steps)) (Appends-trans was at text (printed first) (printed steps) a b)

pub done-then : (first second : List CommandStep) (files mid now : Directory) (was at text : Option (List ℕ)) → IsDone first files mid was at → IsDone second mid now at text
    → IsDone (first ++ second) files now was text
done-then first second files mid now was at text a b = record {
  are = λ name. b.are name ∙ written-then first second files mid a.are name;
  said = said-then first second was at text a.said b.said;
}

-- more steps that were not come to
fewer : {X : Type 0} (n : ℕ) (xs ys : List X) → (m : ℕ) × (take m (xs ++ ys) ≡ take n xs) × (drop m (xs ++ ys) ≡ drop n xs ++ ys)
fewer zero xs ys = (0, refl, refl)
fewer (suc n) [] ys = (0, refl, refl)
fewer (suc n) (x ∷ xs) ys = let f = fewer n xs ys in (suc f.0, ap (λ l. x ∷ l) f.1, f.2)

more-left : (left rest : List CommandStep) (files : Directory) (now : Option Directory) → AreUpTo left now files → AreUpTo (left ++ rest) now files
more-left [] rest files now are = are-up-to rest now files are
more-left (Writes name bytes ∷ left) rest files now are = are
more-left (Prints text ∷ left) rest files now are = are

prints-more : (left rest : List CommandStep) → IsPrinting left → IsPrinting (left ++ rest)
prints-more [] rest p = absurd p
prints-more (Writes name bytes ∷ left) rest p = absurd p
prints-more (Prints text ∷ left) rest p = tt

half-none : (steps : List CommandStep) → half_printed 0 steps ≡ []
half-none [] = refl
half-none (Writes name bytes ∷ steps) = refl
half-none (Prints text ∷ steps) = refl

half-more : (k : ℕ) (left rest : List CommandStep) → (j : ℕ) × (half_printed j (left ++ rest) ≡ half_printed k left)
half-more k [] rest = (0, half-none rest)
half-more k (Writes name bytes ∷ left) rest = (k, refl)
half-more k (Prints text ∷ left) rest = (k, refl)

module _ (first second rest : List CommandStep) (files mid : Directory) (now : Option Directory) (was at text : Option (List ℕ)) (rose late spoiled spoiled-late sink-rose sink-late : Type 0)
    (done : IsDone first files mid was at) (rises : rose → late) (spoils : spoiled → spoiled-late) (sink-rises : sink-rose → sink-late) where
  -- the first n of the second steps are some of the first of all
  reach : ℕ → ℕ
  reach n = length first + (fewer n second rest).0

  reached : (n : ℕ) → take (reach n) (first ++ (second ++ rest)) ≡ first ++ take n second
  unfolding reach
  reached n = let f = fewer n second rest in take-append-add first (second ++ rest) f.0 ∙ ap (λ (l : List CommandStep). first ++ l) f.1

  unreached : (n : ℕ) → drop (reach n) (first ++ (second ++ rest)) ≡ drop n second ++ rest
  unfolding reach
  unreached n = let f = fewer n second rest in drop-append-add first (second ++ rest) f.0 ∙ f.2

  there-are : (n : ℕ) → Are now (with_steps (take n second) mid) → Are now (with_steps (take (reach n) (first ++ (second ++ rest))) files)
  there-are n are =
      subst (λ (l : List CommandStep). Are now (with_steps l files)) (sym (reached n))
      (are-along (with_steps (take n second) mid) (with_steps (first ++ take n second) files) now (written-then first (take n second) files mid done.are) are)

  there-said : (n : ℕ) → Appends at text (printed (take n second)) → Appends was text (printed (take (reach n) (first ++ (second ++ rest))))
  there-said n said =
      subst (λ (l : List CommandStep). Appends was text (printed l)) (sym (reached n)) (said-then first (take n second) was at text done.said said)

  there-half : (n k : ℕ) → Appends at text (printed (take n second) ++ half_printed k (drop n second))
      → (j : ℕ) × Appends was text (printed (take (reach n) (first ++ (second ++ rest))) ++ half_printed j (drop (reach n) (first ++ (second ++ rest))))
  there-half n k said =
      let h = half-more k (drop n second) rest in
      let half : List ℕ = half_printed k (drop n second) in
      let whole : printed (take (reach n) (first ++ (second ++ rest))) ++ half_printed h.0 (drop (reach n) (first ++ (second ++ rest)))
      ≡ printed first ++ (printed (take n second) ++ half) =
      ap (λ (l : List CommandStep). printed l ++ half_printed h.0 (drop (reach n) (first ++ (second ++ rest)))) (reached n)
      ∙ ap (λ (l : List CommandStep). printed (first ++ take n second) ++ half_printed h.0 l) (unreached n)
      ∙ ap (λ (l : List ℕ). printed (first ++ take n second) ++ l) h.1
      ∙ ap (λ (l : List ℕ). l ++ half) (printed-append first (take n second))
      ∙ append_assoc (printed first) (printed (take n second)) half in
      (h.0, subst (Appends was text) (sym whole) (Appends-trans was at text (printed first) (printed (take n second) ++ half) done.said said))

  -- a stop in steps that others follow, after steps that were done
  pub stops : (s : Stop) → Did (Makes second) mid now at text rose spoiled sink-rose (Err s) → Did (Makes (first ++ (second ++ rest))) files now was text late spoiled-late sink-late (Err s)
  stops stop.NoMemory d = (reach d.0, there-are d.0 d.1, there-said d.0 d.2)
  stops stop.SinkFault d = let f = there-half d.1 d.3 d.4 in (sink-rises d.0, reach d.1, there-are d.1 d.2, f.0, f.1, subst IsPrinting (sym (unreached d.1)) (prints-more (drop d.1 second) rest d.5))
  stops stop.FileFault d = (cause d.0, reach d.1, stand d.1 d.2, there-said d.1 d.3)
    where
      cause : (Makes second ≡ Refuses stop.FileFault) ⊎ rose → (Makes (first ++ (second ++ rest)) ≡ Refuses stop.FileFault) ⊎ late
      cause (inl e) = cc
      cause (inr r) = inr (rises r)

      upto : (n : ℕ) → AreUpTo (drop n second) now (with_steps (take n second) mid)
          → AreUpTo (drop (reach n) (first ++ (second ++ rest))) now (with_steps (take (reach n) (first ++ (second ++ rest))) files)
      upto n are =
          let along : AreUpTo (drop n second) now (with_steps (first ++ take n second) files) =
          are-up-to-along (drop n second) (with_steps (take n second) mid) (with_steps (first ++ take n second) files) now (written-then first (take n second) files mid done.are) are in
          let more : AreUpTo (drop n second ++ rest) now (with_steps (first ++ take n second) files) = more-left (drop n second) rest _ now along in
          subst (λ (l : List CommandStep). AreUpTo l now (with_steps (take (reach n) (first ++ (second ++ rest))) files)) (sym (unreached n))
          (subst (λ (l : List CommandStep). AreUpTo (drop n second ++ rest) now (with_steps l files)) (sym (reached n)) more)

      stand : (n : ℕ) → StandAfter n (Makes second) mid now spoiled → StandAfter (reach n) (Makes (first ++ (second ++ rest))) files now spoiled-late
      stand n (inl are) = inl (there-are n are)
      stand n (inr up) = inr (spoils up.0, upto n up.1)
  stops s d = let no : Makes second ≡ Refuses s = d.0 in cc

-- all steps were done
pub did-all : (steps : List CommandStep) (files now : Directory) (was text : Option (List ℕ)) (rose spoiled sink-rose : Type 0) (u : Unit {0}) → IsDone steps files now was text
    → Did (Makes steps) files (Some now) was text rose spoiled sink-rose (Ok u)
did-all steps files now was text rose spoiled sink-rose u done = (refl, done.are, done.said)

-- what there is after a command that did all
pub are-now : (steps : List CommandStep) (files : Directory) (now : Option Directory) (was text : Option (List ℕ)) (rose spoiled sink-rose : Type 0) (u : Unit {0})
    → Did (Makes steps) files now was text rose spoiled sink-rose (Ok u) → (d : Directory) × (now ≡ Some d) × IsDone steps files d was text
are-now steps files None was text rose spoiled sink-rose u d = absurd d.1
are-now steps files (Some now) was text rose spoiled sink-rose u d = (now, refl, record { are = d.1; said = d.2 })

-- ---- the steps of `unpack`

pub unpack-append : (prefix bytes : List ℕ) (a b : List Entry) → unpack_steps prefix bytes (a ++ b) ≡ unpack_steps prefix bytes a ++ unpack_steps prefix bytes b
unpack-append prefix bytes [] b = refl
unpack-append prefix bytes (e ∷ a) b = ap (λ (l : List CommandStep). Writes (unpacked_name prefix e.guid) (payload bytes e) ∷ l) (ap (λ (l : List CommandStep). Prints (unpacked_line prefix e) ∷ l) (unpack-append prefix bytes a b))

-- ---- the chosen entries

filter-all : (es : List Entry) → filter (λ e. true) es ≡ es
filter-all [] = refl
filter-all (e ∷ es) = ap (λ l. e ∷ l) (filter-all es)

pub chosen-filter : (guids : List (List ℕ)) (es : List Entry) → filter (λ e. (length guids == 0) || has_type_among guids e) es ≡ chosen guids es
chosen-filter [] es = filter-all es
chosen-filter (guid ∷ guids) es =
    let no : (length (guid ∷ guids) == 0) ≡ false = grind (arith, nat_tests) in
    ap (λ (b : Bool). filter (λ e. b || has_type_among (guid ∷ guids) e) es) no

-- ---- the files of chosen entries

-- an entry whose type is among these has what is so of each of them
type-among : (P : List ℕ → Type 0) (guids : List (List ℕ)) (e : Entry) → All P guids → IsTrue (has_type_among guids e) → P e.guid
type-among P [] e all among = cc
type-among P (guid ∷ guids) e all among = go (same_bytes guid e.guid) refl (type-among P guids e (λ k d lt. all (suc k) d (omega (arith, lt)))) among
  where
    go : (b : Bool) → same_bytes guid e.guid ≡ b → (IsTrue (has_type_among guids e) → P e.guid) → IsTrue (b || has_type_among guids e) → P e.guid
    go true is rest h = subst P (same_is guid e.guid is) (all 0 guid (omega arith))
    go false is rest h = rest h

-- who makes the file of no named type makes that of no chosen entry
pub none-for-chosen : (prefix : List ℕ) (guids : List (List ℕ)) (es chosen-ones : List Entry) (access : Access) → chosen-ones ≡ chosen guids es → MakesNoneFor prefix guids access
    → All (λ e. access ≢ way.Makes (unpacked_name prefix e.guid)) chosen-ones
none-for-chosen prefix [] es chosen-ones access is none = λ k d lt. none (get_or chosen-ones k d).guid
none-for-chosen prefix (guid ∷ guids) es chosen-ones access is none =
    let among : All (λ e. has_type_among (guid ∷ guids) e ≡ true) chosen-ones = subst (All (λ e. has_type_among (guid ∷ guids) e ≡ true)) (sym is) (filter_passes (has_type_among (guid ∷ guids)) es) in
    λ k d lt. type-among (λ (g : List ℕ). access ≢ way.Makes (unpacked_name prefix g)) (guid ∷ guids) (get_or chosen-ones k d) none (among k d lt)

-- ---- the file that is read is not written

same_by : (xs ys : List ℕ) → xs ≡ ys → IsTrue (same_bytes xs ys)
same_by xs ys e = subst (λ (l : List ℕ). IsTrue (same_bytes xs l)) e (same_refl xs)

lower-spelled : (text guid : List ℕ) → text ≡ guid_text guid → guid_of text ≡ Some guid → IsTrue (is_lower_guid text)
unfolding is_lower_guid
lower-spelled text guid spelled read = rw read (same_by (guid_text guid) text (sym spelled))

is-unpacked : (prefix text guid : List ℕ) → length text ≡ 36 → text ≡ guid_text guid → guid_of text ≡ Some guid → is_unpacked prefix (prefix ++ guid_text guid ++ bin) ≡ true
unfolding is_unpacked
is-unpacked prefix text guid long spelled read =
    let file : List ℕ = prefix ++ (text ++ bin) in
    let whole : length file ≡ length prefix + 40 = (let a = length-append prefix (text ++ bin) in let b = length-append text bin in omega arith) in
    let front : take (length prefix) file ≡ prefix = take-append_seam prefix (text ++ bin) in
    let back : drop (length prefix) file ≡ text ++ bin = drop-append_seam prefix (text ++ bin) in
    let middle : take 36 (drop (length prefix) file) ≡ text = ap (take 36) back ∙ subst (λ (n : ℕ). take n (text ++ bin) ≡ text) long (take-append_seam text bin) in
    let end : drop (length prefix + 36) file ≡ bin = drop-append-add prefix (text ++ bin) 36 ∙ subst (λ (n : ℕ). drop n (text ++ bin) ≡ bin) long (drop-append_seam text bin) in
    let lower : IsTrue (is_lower_guid (take 36 (drop (length prefix) file))) = subst (λ (l : List ℕ). IsTrue (is_lower_guid l)) (sym middle) (lower-spelled text guid spelled read) in
    let joined : prefix ++ (text ++ bin) ≡ prefix ++ guid_text guid ++ bin = ap (λ (l : List ℕ). prefix ++ (l ++ bin)) spelled ∙ sym (append_assoc prefix (guid_text guid) bin) in
    subst (λ (l : List ℕ). IsTrue (is_unpacked prefix l)) joined
    (and_from _ _ (and_from _ _ (and_from _ _ (eq-eqb _ _ whole) (same_by _ _ front)) lower) (same_by _ _ end))

pub not-from : (prefix text guid from : List ℕ) → length text ≡ 36 → text ≡ guid_text guid → guid_of text ≡ Some guid → is_unpacked prefix from ≡ false → from ≢ unpacked_name prefix guid
not-from prefix text guid from long spelled read other same =
    true≢false (sym (is-unpacked prefix text guid long spelled read) ∙ sym (ap (is_unpacked prefix) same) ∙ other)

pub kept : (prefix bytes from : List ℕ) (e : Entry) (files now : Directory) (was text : Option (List ℕ)) → from ≢ unpacked_name prefix e.guid → IsDone (unpack_steps prefix bytes (e ∷ [])) files now was text
    → now from ≡ files from
kept prefix bytes from e files now was text other done = done.are from ∙ go (bytes_eq (unpacked_name prefix e.guid) from) refl
  where
    go : (b : Bool) → bytes_eq (unpacked_name prefix e.guid) from ≡ b → with_file (unpacked_name prefix e.guid) (payload bytes e) files from ≡ files from
    go true is = absurd (other (sym ((bytes_eq-Decides (unpacked_name prefix e.guid) from).0 is)))
    go false is = rw is refl

-- what was done so far, of these entries
pub record IsUnpacking (prefix from bytes : List ℕ) (entries : List Entry) (told : Directory) (contents : Option Directory) (was text : Option (List ℕ)) : Type 0 where
  pub now : Directory
  pub is : contents ≡ Some now
  pub stored : now from ≡ Some bytes
  pub done : IsDone (unpack_steps prefix bytes entries) told now was text

-- ---- the file that is read stays

module _ (prefix from : List ℕ) (es : List Entry) (start now : Option Directory) (was text : Option (List ℕ)) (silent : start ≡ None → now ≡ None) (there : Lacks start from → ⊥)
    (so-far : (told : Directory) (bytes : List ℕ) → start ≡ Some told → told from ≡ Some bytes → IsUnpacking prefix from bytes es told now was text) where
  -- nothing is told before and now, or what is told of it now was told
  still : ((now ≡ None) × (start ≡ None)) ⊎ ((d : Directory) × (n : Directory) × (start ≡ Some d) × (now ≡ Some n) × (n from ≡ d from))
  still = go start refl
    where
      go : (o : Option Directory) → start ≡ o
          → ((now ≡ None) × (start ≡ None)) ⊎ ((d : Directory) × (n : Directory) × (start ≡ Some d) × (now ≡ Some n) × (n from ≡ d from))
      go None none = inl (silent none, none)
      go (Some d) is = by (d from) refl
        where
          by : (b : Option (List ℕ)) → d from ≡ b
              → ((now ≡ None) × (start ≡ None)) ⊎ ((d : Directory) × (n : Directory) × (start ≡ Some d) × (now ≡ Some n) × (n from ≡ d from))
          by None lacks = absurd (there (subst (λ (o : Option Directory). Lacks o from) (sym is) lacks))
          by (Some b) tells = let s = so-far d b is tells in inr (d, s.now, is, s.is, s.stored ∙ sym tells)

  pub tells-still : (bytes : List ℕ) → Tells now from bytes → Tells start from bytes
  tells-still bytes tells = elim still [
    | inl none ↦ subst (λ (o : Option Directory). Tells o from bytes) (none.0 ∙ sym none.1) tells
    | inr k ↦
        let told : k.1 from ≡ Some bytes = subst (λ (o : Option Directory). Tells o from bytes) k.3 tells in
        subst (λ (o : Option Directory). Tells o from bytes) (sym k.2) (sym k.4 ∙ told)
  ]

  pub there-still : Lacks now from → ⊥
  there-still lacks = elim still [
    | inl none ↦ there (subst (λ (o : Option Directory). Lacks o from) (none.0 ∙ sym none.1) lacks)
    | inr k ↦
        let gone : k.1 from ≡ None = subst (λ (o : Option Directory). Lacks o from) k.3 lacks in
        there (subst (λ (o : Option Directory). Lacks o from) (sym k.2) (sym k.4 ∙ gone))
  ]

-- ---- one payload

pub line-is : (prefix : List ℕ) (e : Entry) (shown line : List ℕ) → shown ≡ unpacked_name prefix e.guid → line ≡ guid_text e.guid ++ codes " size=" ++ decimal e.size ++ codes " file=" ++ shown ++ codes "\n" → line ≡ unpacked_line prefix e
unfolding unpacked_line
line-is prefix e shown line seen said = said ∙ ap (λ (n : List ℕ). guid_text e.guid ++ codes " size=" ++ decimal e.size ++ codes " file=" ++ n ++ codes "\n") seen

-- a file that was written, and its line
pub entry-did : (prefix bytes : List ℕ) (e : Entry) (name shown out line : List ℕ) (told : Directory) (now : Option Directory) (was text : Option (List ℕ)) (rose late spoiled spoiled-late sink-rose : Type 0) (r : Result (Unit {0}) Stop)
    → name ≡ unpacked_name prefix e.guid → shown ≡ unpacked_name prefix e.guid → out ≡ payload bytes e → line ≡ guid_text e.guid ++ codes " size=" ++ decimal e.size ++ codes " file=" ++ shown ++ codes "\n" → (rose → late) → (spoiled → spoiled-late)
    → Did (Makes (Writes name out ∷ Prints line ∷ [])) told now was text rose spoiled sink-rose r → Did (Makes (unpack_steps prefix bytes (e ∷ []))) told now was text late spoiled-late sink-rose r
unfolding unpacked_line
entry-did prefix bytes e name shown out line told now was text rose late spoiled spoiled-late sink-rose r named seen whole said rises spoils d =
    let lined : line ≡ unpacked_line prefix e = said ∙ ap (λ (n : List ℕ). guid_text e.guid ++ codes " size=" ++ decimal e.size ++ codes " file=" ++ n ++ codes "\n") seen in
    let steps : Writes name out ∷ Prints line ∷ [] ≡ unpack_steps prefix bytes (e ∷ []) = cc in
    did-later (Makes (unpack_steps prefix bytes (e ∷ []))) told now was text rose late spoiled spoiled-late sink-rose r rises spoils
    (subst (λ (l : List CommandStep). Did (Makes l) told now was text rose spoiled sink-rose r) steps d)

-- ---- one entry after the other

module _ (p : Entry → Bool) (es : List Entry) (i : ℕ) (e : Entry) (lt : i < length es) (here : get_or es i e ≡ e) where
  next-is : filter p (take (i + 1) es) ≡ filter p (take i es) ++ cond (p e) (e ∷ []) []
  next-is = ap (filter p) (take_more es i e lt ∙ ap (λ (x : Entry). take i es ++ (x ∷ [])) here) ∙ filter-append p (take i es) (e ∷ [])

  pub next-chosen : p e ≡ true → filter p (take (i + 1) es) ≡ filter p (take i es) ++ (e ∷ [])
  next-chosen h = next-is ∙ ap (λ (b : Bool). filter p (take i es) ++ cond b (e ∷ []) []) h

  pub next-passed : p e ≡ false → filter p (take (i + 1) es) ≡ filter p (take i es)
  next-passed h = next-is ∙ ap (λ (b : Bool). filter p (take i es) ++ cond b (e ∷ []) []) h ∙ append-nil (filter p (take i es))

  pub split-chosen : p e ≡ true → filter p es ≡ filter p (take i es) ++ (e ∷ filter p (drop (i + 1) es))
  split-chosen h =
      let rest : List Entry = filter p (drop (i + 1) es) in
      ap (filter p) (sym (take-append-drop i es)) ∙ filter-append p (take i es) (drop i es)
      ∙ ap (λ (l : List Entry). filter p (take i es) ++ filter p l) (drop_more es i e lt ∙ ap (λ (x : Entry). x ∷ drop (i + 1) es) here)
      ∙ ap (λ (b : Bool). filter p (take i es) ++ cond b (e ∷ rest) rest) h

  -- what is so of all chosen ones is so of it
  pub one-chosen : p e ≡ true → (P : Entry → Type 0) → All P (filter p es) → P e
  one-chosen h P all =
      let before : List Entry = filter p (take i es) in
      let rest : List Entry = filter p (drop (i + 1) es) in
      let split : All P (before ++ (e ∷ rest)) = subst (All P) (split-chosen h) all in
      subst P (get_or-append_seam before e rest e) (split (length before) e (let long = length-append before (e ∷ rest) in omega (arith, long)))

module _ (prefix from bytes : List ℕ) (p : Entry → Bool) (es : List Entry) (i : ℕ) (told : Directory) (was : Option (List ℕ)) where
  pub step-passed : (e : Entry) → i < length es → get_or es i e ≡ e → (contents : Option Directory) (text : Option (List ℕ)) → IsUnpacking prefix from bytes (filter p (take i es)) told contents was text
      → p e ≡ false → IsUnpacking prefix from bytes (filter p (take (i + 1) es)) told contents was text
  step-passed e lt here contents text s h = subst (λ (l : List Entry). IsUnpacking prefix from bytes l told contents was text) (sym (next-passed p es i e lt here h)) s

  module _ (e : Entry) (lt : i < length es) (here : get_or es i e ≡ e) (mid contents : Option Directory) (at text : Option (List ℕ)) (rose spoiled sink-rose : Type 0)
      (s : IsUnpacking prefix from bytes (filter p (take i es)) told mid was at) where
    pub step-done : (u : Unit {0}) → p e ≡ true → from ≢ unpacked_name prefix e.guid
        → Did (Makes (unpack_steps prefix bytes (e ∷ []))) s.now contents at text rose spoiled sink-rose (Ok u) → IsUnpacking prefix from bytes (filter p (take (i + 1) es)) told contents was text
    step-done u h other did =
        let n = are-now (unpack_steps prefix bytes (e ∷ [])) s.now contents at text rose spoiled sink-rose u did in
        let split : unpack_steps prefix bytes (filter p (take (i + 1) es)) ≡ unpack_steps prefix bytes (filter p (take i es)) ++ unpack_steps prefix bytes (e ∷ []) =
        ap (unpack_steps prefix bytes) (next-chosen p es i e lt here h) ∙ unpack-append prefix bytes (filter p (take i es)) (e ∷ []) in record {
          now = n.0;
          is = n.1;
          stored = kept prefix bytes from e s.now n.0 at text other n.2 ∙ s.stored;
          done = subst (λ (steps : List CommandStep). IsDone steps told n.0 was text) (sym split)
              (done-then (unpack_steps prefix bytes (filter p (take i es))) (unpack_steps prefix bytes (e ∷ [])) told s.now n.0 was at text s.done n.2);
        }

    pub step-stops : (late spoiled-late sink-late : Type 0) (x : Stop) → (rose → late) → (spoiled → spoiled-late) → (sink-rose → sink-late) → p e ≡ true
        → Did (Makes (unpack_steps prefix bytes (e ∷ []))) s.now contents at text rose spoiled sink-rose (Err x) → Did (Makes (unpack_steps prefix bytes (filter p es))) told contents was text late spoiled-late sink-late (Err x)
    step-stops late spoiled-late sink-late x rises spoils sink-rises h did =
        let left = filter p (drop (i + 1) es) in
        let split : unpack_steps prefix bytes (filter p es) ≡ unpack_steps prefix bytes (filter p (take i es)) ++ (unpack_steps prefix bytes (e ∷ []) ++ unpack_steps prefix bytes left) =
        ap (unpack_steps prefix bytes) (split-chosen p es i e lt here h) ∙ unpack-append prefix bytes (filter p (take i es)) (e ∷ left) in
        subst (λ (steps : List CommandStep). Did (Makes steps) told contents was text late spoiled-late sink-late (Err x)) (sym split)
        (stops (unpack_steps prefix bytes (filter p (take i es))) (unpack_steps prefix bytes (e ∷ [])) (unpack_steps prefix bytes left) told s.now contents was at text
        rose late spoiled spoiled-late sink-rose sink-late s.done rises spoils sink-rises x did)

  pub all-done : (contents : Option Directory) (text : Option (List ℕ)) (rose spoiled sink-rose : Type 0) (u : Unit {0}) → length es ≤ i → IsUnpacking prefix from bytes (filter p (take i es)) told contents was text
      → Did (Makes (unpack_steps prefix bytes (filter p es))) told contents was text rose spoiled sink-rose (Ok u)
  all-done contents text rose spoiled sink-rose u far s =
      subst (λ (o : Option Directory). Did (Makes (unpack_steps prefix bytes (filter p es))) told o was text rose spoiled sink-rose (Ok u)) (sym s.is)
      (did-all (unpack_steps prefix bytes (filter p es)) told s.now was text rose spoiled sink-rose u
      (subst (λ (l : List Entry). IsDone (unpack_steps prefix bytes (filter p l)) told s.now was text) (take_all i es far) s.done))

pub unpack-of : (told : Directory) (name : List ℕ) (guids : List (List ℕ)) (toc : Toc) (o : IsOpened told name guids toc) → unpack_value told name guids ≡ Ok (o.bytes, chosen guids toc.entries)
unfolding unpack_value
unpack-of told name guids toc o =
    going-on told name guids toc (λ p. Ok (p.0, chosen guids p.1.entries)) o
    ∙ ap (λ (f : Option (List ℕ)). Ok (unwrap_or f [], chosen guids toc.entries)) o.is

pub unpack-err : (told : Directory) (name : List ℕ) (guids : List (List ℕ)) (s : Stop) → table_with told name guids ≡ Err s → unpack_value told name guids ≡ Err s
unfolding unpack_value
unpack-err told name guids s e = stopped told name guids (λ p. Ok (p.0, chosen guids p.1.entries)) s e
