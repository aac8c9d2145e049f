use Rattle.moves.proofs.{Repaired.rest-used, MetaMoves.deciding-fits}
use Rattle.moves.proofs.Stored.{quiet-free, quiet-accept, quiet-back, quiet-switch}
use Rattle.moves.proofs.stores.moves_keep_quiet.Goals as goal

pub returns : goal.returns
returns c = λ L t r layout rest decided.
    let quiet = rest-used L t layout rest r decided in
    let whole = deciding-fits L t.now r decided in
    record {
      before = quiet;
      free = λ b lt. quiet-free L r.meta b t whole lt quiet;
      accept = λ image used. quiet-accept L r.meta image t whole.active used quiet;
      back = quiet-back L r.meta t quiet;
      switch = λ b p bits here. quiet-switch L r.meta b p bits t here quiet;
    }
