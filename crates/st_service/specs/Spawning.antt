-- What a start under a service answers and gives back.
use Rattle.std.specs.Prelude.{◌≡◌, ⊤, IfSome, Result, Ok, Err}
use Rattle.st_events.specs.declared.refused.Refused.{Refused}
use Rattle.st_lock.specs.Ports.{port_at_first}
use Rattle.st_registry.specs.declared.started.Started.{Started}
use Rattle.st_registry.specs.declared.started.Started.TheVariants as started
use Rattle.st_service.specs.declared.spawned.Spawned.{Spawned}
use Rattle.st_service.specs.declared.spawned.Spawned.TheVariants as spawned
use Rattle.st_service.specs.declared.unspawned.Unspawned.{Unspawned}
use Rattle.st_service.specs.declared.unspawned.Unspawned.TheVariants.{Closed, Refused as NotStarted}

-- the module that comes back
abbrev pub module_in : {M : Type 0} → Unspawned M → M
module_in (Closed given) = given
module_in (NotStarted refused) = refused.value

-- what a service answers where its hall answers so: the same, with the first port of a machine that runs, if there is memory
abbrev pub AnswersStart : {M S D C A R O : Type 0} → Result Started (Refused M) → Result (Spawned M S D C A R O) (Unspawned M) → Type 0
AnswersStart (Ok (started.Running id wake)) (Ok (spawned.Running own port)) = (own ≡ id) × IfSome port (λ port. port.port ≡ port_at_first id)
AnswersStart (Ok started.Ignored) (Ok spawned.Ignored) = ⊤
AnswersStart (Ok (started.Stopped reason)) (Ok (spawned.Stopped own)) = own ≡ reason
AnswersStart (Err refused) (Err (NotStarted own)) = own ≡ refused
AnswersStart _ _ = ⊥
