use Rattle.moves.proofs.{MetaMoves.two-decides, Calm.calm-shown}
use Rattle.moves.proofs.Stored.{free-does, accept-does, back-does, switch-does}
use Rattle.fwu_model.specs.MoveMetas.{meta_in}
use Rattle.moves.proofs.stores.stores_do_moves.Goals as goal

pub returns : goal.returns
returns c = λ result E s t state ready two.
    let decided = two-decides E.layout s.now state (calm-shown E s state ready.calm) two in
    record {
      free = λ accepted stores. free-does result E s t state (meta_in state) ready decided accepted stores;
      accept = λ image stores. accept-does result E s t state (meta_in state) ready decided image stores;
      back = λ accepted permitted stores. back-does result E s t state (meta_in state) ready decided accepted permitted stores;
      switch = λ p bits accepted quiet held rows complete permitted cleared stores. switch-does result E s t state (meta_in state) ready decided p bits accepted quiet held rows complete permitted cleared stores;
    }
