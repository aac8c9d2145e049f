-- What was done, from what the parts of a command answer.
use Rattle.std.proofs.Common.{◌≡◌, ◌⊎◌, inl, inr, ℕ, List, [], ◌∷◌, Option, Some, None, Result, Ok, Err, refl, sym, ap, subst, append-nil}
use Rattle.std.specs.Io.KnownBytes.{Appends}
use Rattle.host_io.specs.Contents.{Directory}
use Rattle.fip_tool.specs.Steps.{CommandPlan, Makes, Refuses, CommandStep, Writes, Prints, Are, AreUpTo, StandAfter, Did, PrintedText, outcome_by}
use Rattle.fip_tool.specs.Tool.{prints}
use Rattle.fip_making.specs.{Answers.Gives, declared.stops.Stop.Stop}
use Rattle.fip_making.specs.declared.stops.Stop.TheVariants as stop
use Rattle.fip_tool.proofs.Texts.{appends-same}

pub are-told : (files : Directory) (now : Option Directory) → now ≡ Some files → Are now files
are-told files None e = cc
are-told files (Some now) e = λ name. let same : now ≡ files = cc in ap (λ (d : Directory). d name) same

pub are-up-to : (steps : List CommandStep) (now : Option Directory) (files : Directory) → Are now files → AreUpTo steps now files
are-up-to [] now files h = h
are-up-to (Prints text ∷ steps) now files h = h
are-up-to (Writes name bytes ∷ steps) None files h = absurd h
are-up-to (Writes name bytes ∷ steps) (Some now) files h = λ other differs. h other

-- a part that stopped before anything was done
pub refused : {A X : Type 0} (steps : X → List CommandStep) (view : A → X) (value : Result X Stop) (files : Directory) (now : Option Directory) (was text : Option (List ℕ))
    (files-rose spoiled sink-rose : Type 0) (s : Stop) → Gives view files-rose value (Err s) → now ≡ Some files → text ≡ was
    → Did (outcome_by steps value) files now was text files-rose spoiled sink-rose (Err s)
refused steps view value files now was text files-rose spoiled sink-rose stop.Usage g e t = (ap (outcome_by steps) g, are-told files now e, appends-same was text t)
refused steps view value files now was text files-rose spoiled sink-rose stop.FileFault (inl g) e t =
    (inl (ap (outcome_by steps) g), 0, inl (are-told files now e), appends-same was text t)
refused steps view value files now was text files-rose spoiled sink-rose stop.FileFault (inr g) e t =
    (inr g, 0, inl (are-told files now e), appends-same was text t)
refused steps view value files now was text files-rose spoiled sink-rose stop.SinkFault g e t = absurd g
refused steps view value files now was text files-rose spoiled sink-rose stop.NoMemory g e t = (0, are-told files now e, appends-same was text t)
refused steps view value files now was text files-rose spoiled sink-rose s g e t = (ap (outcome_by steps) g, are-told files now e, appends-same was text t)

-- a text that was made, and printed
made : (piece : List ℕ) (files : Directory) (now : Option Directory) (was text : Option (List ℕ))
    (files-rose spoiled sink-rose : Type 0) (r : Result (Unit {0}) Stop) → now ≡ Some files → PrintedText was text sink-rose piece r
    → Did (Makes (prints piece)) files now was text files-rose spoiled sink-rose r
made piece files now was text files-rose spoiled sink-rose (Ok u) e p =
    (refl, are-told files now e, subst (Appends was text) (sym (append-nil piece)) p)
made piece files now was text files-rose spoiled sink-rose (Err stop.SinkFault) e p =
    (p.0, 0, are-told files now e, p.1, p.2, tt)
made piece files now was text files-rose spoiled sink-rose (Err stop.NoMemory) e p = (0, are-told files now e, appends-same was text p)
made piece files now was text files-rose spoiled sink-rose (Err s) e p = absurd p

pub printed-text : (value : Result (List ℕ) Stop) (piece : List ℕ) (files : Directory) (now : Option Directory) (was text : Option (List ℕ))
    (files-rose spoiled sink-rose : Type 0) (r : Result (Unit {0}) Stop) → value ≡ Ok piece → now ≡ Some files → PrintedText was text sink-rose piece r
    → Did (outcome_by prints value) files now was text files-rose spoiled sink-rose r
printed-text value piece files now was text files-rose spoiled sink-rose r v e p =
    subst (λ (o : CommandPlan). Did o files now was text files-rose spoiled sink-rose r) (sym (ap (outcome_by prints) v)) (made piece files now was text files-rose spoiled sink-rose r e p)

-- a file that failed in a part of a command failed in the whole
pub did-later : (outcome : CommandPlan) (files : Directory) (now : Option Directory) (was text : Option (List ℕ)) (rose late spoiled spoiled-late sink-rose : Type 0) (r : Result (Unit {0}) Stop) → (rose → late) → (spoiled → spoiled-late)
    → Did outcome files now was text rose spoiled sink-rose r → Did outcome files now was text late spoiled-late sink-rose r
did-later outcome files now was text rose late spoiled spoiled-late sink-rose (Ok u) rises spoils d = d
did-later outcome files now was text rose late spoiled spoiled-late sink-rose (Err stop.FileFault) rises spoils d = (cause d.0, d.1, stand d.1 d.2, d.3)
  where
    cause : (outcome ≡ Refuses stop.FileFault) ⊎ rose → (outcome ≡ Refuses stop.FileFault) ⊎ late
    cause (inl e) = inl e
    cause (inr r) = inr (rises r)

    stand : (n : ℕ) → StandAfter n outcome files now spoiled → StandAfter n outcome files now spoiled-late
    stand n (inl are) = inl are
    stand n (inr up) = inr (spoils up.0, up.1)
did-later outcome files now was text rose late spoiled spoiled-late sink-rose (Err s) rises spoils d = d

-- want of memory before anything was done
pub no-memory-yet : (outcome : CommandPlan) (files : Directory) (now : Option Directory) (was text : Option (List ℕ)) (files-rose spoiled sink-rose : Type 0) → now ≡ Some files → text ≡ was
    → Did outcome files now was text files-rose spoiled sink-rose (Err stop.NoMemory)
no-memory-yet outcome files now was text files-rose spoiled sink-rose e t = (0, are-told files now e, appends-same was text t)

-- the steps of a value that was made
pub made-steps : {X : Type 0} (steps : X → List CommandStep) (value : Result X Stop) (x : X) (files : Directory) (now : Option Directory) (was text : Option (List ℕ)) (rose late spoiled spoiled-late sink-rose : Type 0)
    (r : Result (Unit {0}) Stop) → value ≡ Ok x → (rose → late) → (spoiled → spoiled-late) → Did (Makes (steps x)) files now was text rose spoiled sink-rose r
    → Did (outcome_by steps value) files now was text late spoiled-late sink-rose r
made-steps steps value x files now was text rose late spoiled spoiled-late sink-rose r v rises spoils d =
    subst (λ (o : CommandPlan). Did o files now was text late spoiled-late sink-rose r) (sym (ap (outcome_by steps) v))
    (did-later (Makes (steps x)) files now was text rose late spoiled spoiled-late sink-rose r rises spoils d)
