-- What an error answers.
use Rattle.std.proofs.Common.{◌≡◌, Option, None, Result, Err, refl}
use Rattle.clap_words.specs.{declared.UsageStop.UsageStop, Answers.GivesAsked}
use Rattle.clap_words.specs.declared.UsageStop.TheVariants.{Usage, NoMemory}

pub error_answers : {X Y : Type 0} (Z : Type 0) (view : X → Y) (stop : UsageStop) (asked : Option Y)
    → (◌≡◌ {A = Result Z UsageStop} (Err stop) (Err Usage) → asked ≡ None) → GivesAsked view (Err stop) asked
error_answers Z view Usage asked h = h refl
error_answers Z view NoMemory asked h = tt
