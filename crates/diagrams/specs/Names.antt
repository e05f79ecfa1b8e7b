-- The names of the example modules' states and contents.
use Rattle.std.specs.Prelude.{ℕ, List, ◌++◌, codes, decimal}
use Rattle.lamp_module.specs.declared.lamp.Light.{Light}
use Rattle.lamp_module.specs.declared.lamp.Light.TheVariants.{Off, On}
use Rattle.lamp_module.specs.declared.lamp.Press.{Press}
use Rattle.lamp_module.specs.declared.lamp.Press.TheVariants.{Switch, Renew}
use Rattle.mail_module.specs.declared.command.Command.{Command}
use Rattle.mail_module.specs.declared.command.Command.TheVariants.{User, Pass, Stat, Take, Noop, Quit, Unknown}
use Rattle.mail_module.specs.declared.content.Content.{Content}
use Rattle.mail_module.specs.declared.content.Content.TheVariants.{Asked, Said, Done, TimeOut}
use Rattle.mail_module.specs.declared.phase.Phase.{Phase}
use Rattle.mail_module.specs.declared.phase.Phase.TheVariants.{Greeted, Named, Open, Busy, Closing}

-- a lamp's states
abbrev pub light_name : Light → List ℕ
light_name Off = codes "Off"
light_name On = codes "On"

-- a lamp's contents
abbrev pub press_name : Press → List ℕ
press_name Switch = codes "switch"
press_name (Renew bulb) = codes "renew"

-- a mailbox's states
abbrev pub phase_name : Phase → List ℕ
phase_name Greeted = codes "Greeted"
phase_name Named = codes "Named"
phase_name Open = codes "Open"
phase_name (Busy take) = codes "Busy"
phase_name Closing = codes "Closing"

-- a mailbox's commands
abbrev pub command_name : Command → List ℕ
command_name (User user) = codes "user " ++ decimal user
command_name (Pass pin) = codes "pass " ++ decimal pin
command_name Stat = codes "stat"
command_name (Take number) = codes "take " ++ decimal number
command_name Noop = codes "noop"
command_name Quit = codes "quit"
command_name Unknown = codes "another line"

-- a mailbox's contents
abbrev pub content_name : Content → List ℕ
content_name (Asked command) = command_name command
content_name (Said answer) = codes "said"
content_name Done = codes "done"
content_name TimeOut = codes "over"
