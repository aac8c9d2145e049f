use Rattle.moves.proofs.Composed.{does-stopped, does-then, does-idle}
use Rattle.moves.proofs.laws.calls_compose.Goals as goal

pub returns : goal.returns
returns c = record { stopped = λ given result E s ms ns t err does. does-stopped given result E s ms ns t err does; next = λ result E s ms ns m t first second. does-then tt result E s ms ns m t first second; idle = λ result E s ms t err calm. does-idle result E s ms t err calm }
