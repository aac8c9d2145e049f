-- The command that is named, with its arguments.
use Rattle.std.proofs.Common.{◌≡◌, List, Option, Some, None, Result, option_map, option_and_then, refl, subst, ap₂}
use Rattle.clap.specs.Words.{Row, Text}
use Rattle.clap_words.specs.{declared.UsageStop.UsageStop, Answers.GivesAsked}

pub found : {X Y : Type 0} (view : X → Y) (f : Text → List Row → Option Y) (o : Option (Text × List Row)) (name : Text) (rows : List Row) (r : Result X UsageStop)
    → Some name ≡ option_map (λ (p : Text × List Row). p.0) o → Some rows ≡ option_map (λ (p : Text × List Row). p.1) o → GivesAsked view r (f name rows)
    → GivesAsked view r (option_and_then (λ (p : Text × List Row). f p.0 p.1) o)
found view f None name rows r n m h = cc
found {Y = Y} view f (Some p) name rows r n m h =
    let a : name ≡ p.0 = cc in
    let b : rows ≡ p.1 = cc in
    subst (λ (asked : Option Y). GivesAsked view r asked) (ap₂ f a b) h

pub mapped-twice : {A B C : Type 0} (f : A → B) (g : B → C) (o : Option A) → option_map (λ (x : A). g (f x)) o ≡ option_map g (option_map f o)
mapped-twice f g None = refl
mapped-twice f g (Some x) = refl
