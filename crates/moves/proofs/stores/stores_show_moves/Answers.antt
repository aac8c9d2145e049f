use Rattle.moves.proofs.MetaMoves.{two-decides}
use Rattle.moves.proofs.Stored.{free-shows, accept-shows, back-shows, switch-shows, active-at, previous-at}
use Rattle.fwu_model.specs.MoveMetas.{meta_in}
use Rattle.moves.proofs.stores.stores_show_moves.Goals as goal

pub returns : goal.returns
returns c = λ result L s t state shown two.
    let decided = two-decides L s.now state shown two in
    record {
      free = λ stores. free-shows result L s t state (meta_in state) shown decided stores;
      accept = λ image used stores. accept-shows result L s t state (meta_in state) shown decided image (active-at L s.now (meta_in state) state shown decided used) stores;
      back = λ accepted stores. back-shows result L s t state (meta_in state) shown decided (previous-at L s.now (meta_in state) state shown decided accepted) stores;
      switch = λ p bits held cleared stores. switch-shows result L s t state (meta_in state) shown decided p bits held cleared stores;
    }
