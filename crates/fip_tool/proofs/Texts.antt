-- The texts that are printed.
use Rattle.std.proofs.Common.{◌≡◌, ℕ, List, [], ◌∷◌, ◌++◌, Option, Result, Ok, Err, length, take, drop, refl, sym, ap, subst, ◌∙◌, append-nil, true, false, nat_lt, Bool}
use Rattle.std.specs.Prelude.{if◌then◌else◌}
use Rattle.std.proofs.lemmas.List.Folds.{concat-append}
use Rattle.std.specs.List.{concat}
use Rattle.std.proofs.Math.Seq.{drop-append_seam, take-append_seam}
use Rattle.std.specs.Io.KnownBytes.{Appends, Consumes, IsAtEnd}
use Rattle.std.proofs.KnownBytes.{Appends-nil, Appends-trans}
use Rattle.fip_tool.specs.{Lines.info_text}
use Rattle.fip_tool.specs.{Tool.given_value, Tool.info_value}
use Rattle.fip_tool.specs.{Wrote.WroteAll}
use Rattle.fip_making.specs.{declared.stops.Stop.Stop}
use Rattle.fip_making.specs.Values.{GivenTo, and_then, given_table, source_limit, sized_table, or_stop}
use Rattle.fip_making.specs.declared.stops.Stop.TheVariants as stop
use Rattle.fwu_formats.specs.{Package.Toc, Package.toc_of, declared.kinds.FipFault.FipFault}
use Rattle.fip_tables.specs.Answers.{decided}
use Rattle.host_io.specs.Contents.{Directory}

-- ---- what was printed, text by text

pub appends-same : (was text : Option (List ℕ)) → text ≡ was → Appends was text []
appends-same was text e = subst (λ (t : Option (List ℕ)). Appends was t []) (sym e) (Appends-nil was)

-- ---- one text

pub joined-one : (line : List ℕ) → concat (line ∷ []) ≡ line
joined-one line = append-nil line

-- ---- texts one after the other

pub front : (before : List (List ℕ)) (line : List ℕ) (after all : List (List ℕ)) → all ≡ before ++ (line ∷ after) → take (length before) all ≡ before
front before line after all is = ap (take (length before)) is ∙ take-append_seam before (line ∷ after)

pub back : (before : List (List ℕ)) (line : List ℕ) (after all : List (List ℕ)) → all ≡ before ++ (line ∷ after) → drop (length before) all ≡ line ∷ after
back before line after all is = ap (drop (length before)) is ∙ drop-append_seam before (line ∷ after)

-- one more text was printed
pub said-more : (before all : List (List ℕ)) (line : List ℕ) (was at text : Option (List ℕ)) (mid now : ℕ) → all ≡ before ++ (line ∷ []) → Appends was at (concat before)
    → WroteAll (λ texts. texts ≡ line ∷ []) (λ n. n) at text mid now → Appends was text (concat all)
said-more before all line was at text mid now is so-far w =
    let here : Appends at text line = subst (Appends at text) (ap concat w.are ∙ joined-one line) w.said in
    subst (Appends was text) (sym (ap concat is ∙ concat-append before (line ∷ []) ∙ ap (λ (l : List ℕ). concat before ++ l) (joined-one line)))
    (Appends-trans was at text (concat before) line so-far here)

-- ---- the listing of a table

-- the text of a table that was given
value-of : (given : List ℕ) (r : Result (Toc × ℕ) Stop) → given_table given ≡ r → given_value given ≡ and_then r (λ t. Ok (info_text t.0 t.1))
unfolding given_value
value-of given r e = ap (λ (x : Result (Toc × ℕ) Stop). and_then x (λ t. Ok (info_text t.0 t.1))) e

-- a stop of the table is one of its text
pub text-stopped : {A : Type 0} (view : A → List ℕ) (was left : Option (List ℕ)) (rose : Type 0) (given : List ℕ) (s : Stop) → GivenTo (λ (t : Toc × ℕ). t) given_table was left rose (Err s) given
    → GivenTo view given_value was left rose (Err s) given
text-stopped view was left rose given (stop.NotFip f) g = (g.0, g.1, value-of given (Err (stop.NotFip f)) g.2)
text-stopped view was left rose given stop.FileFault g = g
text-stopped view was left rose given stop.NoMemory g = g
text-stopped view was left rose given stop.SinkFault g = g
text-stopped view was left rose given s g = (g.0, value-of given (Err s) g.1)

pub text-made : (was left : Option (List ℕ)) (rose : Type 0) (given : List ℕ) (t : Toc × ℕ) (text : List ℕ) → GivenTo (λ (t : Toc × ℕ). t) given_table was left rose (Ok t) given
    → text ≡ info_text t.0 t.1 → Consumes was left given × IsAtEnd left × (given_value given ≡ Ok text)
text-made was left rose given t text g e = (g.0, g.1, value-of given (Ok t) g.2 ∙ ap (λ (l : List ℕ). Ok l) (sym e))

-- the text of a table
pub info-made : (files : Directory) (name : List ℕ) (t : Toc × ℕ) (text : List ℕ) → sized_table files name ≡ Ok t → text ≡ info_text t.0 t.1 → info_value files name ≡ Ok text
unfolding info_value
info-made files name t text is e = rw is (ap (λ (l : List ℕ). Ok l) (sym e))

pub info-err : (files : Directory) (name : List ℕ) (s : Stop) → sized_table files name ≡ Err s → info_value files name ≡ Err s
unfolding info_value
info-err files name s is = rw is refl

-- a table that the source gave is one of a package
pub table-given : (given : List ℕ) (t : Toc) (size : ℕ) → given_table given ≡ Ok (t, size) → toc_of given ≡ Ok t
unfolding given_table
table-given given t size e = go (decided (toc_of given)) (nat_lt source_limit (length given)) (toc_of given) e
  where
    go : (d : Result (Unit {0}) FipFault) (b : Bool) (r : Result Toc FipFault)
        → and_then {Y = Toc × ℕ} (or_stop stop.NotFip d) (λ none. if b then Err stop.TooLong else and_then {X = Toc} {Y = Toc × ℕ} (or_stop stop.NotFip r) (λ t. Ok (t, length given))) ≡ Ok (t, size) → r ≡ Ok t
    go (Err f) b r e = cc
    go (Ok u) true r e = cc
    go (Ok u) false (Err f) e = cc
    go (Ok u) false (Ok x) e =
        let first : ◌≡◌ {A = Result Toc Stop} (Ok x) (Ok t) = ap (λ (r : Result (Toc × ℕ) Stop). and_then {X = Toc × ℕ} {Y = Toc} r (λ p. Ok p.0)) e in
        let same : x ≡ t = cc in
        ap (λ (y : Toc). Ok y) same
