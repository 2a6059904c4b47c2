-- Where the test for use seeks what a name means.
use Rattle.std.specs.Prelude.{Option, Some, None}
use Rattle.model.specs.declared.Group.{Group}
use Rattle.model.specs.declared.Group.TheVariants.{Operating, Orientational, Levelling}
use Rattle.chains.specs.declared.used.Sought.{Sought}
use Rattle.chains.specs.Searches.{nowhere, anywhere}
use Rattle.memory.specs.declared.find.Found.{Found}
use Rattle.memory.specs.declared.find.Found.TheVariants.{User, Fixed}

-- a group's fixed system, in that group alone
abbrev pub end_of : Group → Sought
end_of Operating = record { operating = 0; orientational = nowhere; levelling = nowhere }
end_of Orientational = record { operating = nowhere; orientational = 0; levelling = nowhere }
end_of Levelling = record { operating = nowhere; orientational = nowhere; levelling = 0 }

-- a user system by its place, a fixed one at its chains' end; where nothing was found, a place that is never met
abbrev pub sought_for : Option Found → Sought
sought_for (Some (User k)) = anywhere k
sought_for (Some (Fixed g)) = end_of g
sought_for None = anywhere nowhere
