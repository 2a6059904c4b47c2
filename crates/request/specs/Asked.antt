-- What a request of the code says: document 01's number, and where that is 0 what the line asks.
use Rattle.std.specs.Prelude.{ℕ, ◌≤◌, ◌≡◌, List, Result, IfOk}
use Rattle.std.proofs.Math.Option.{none}
use Rattle.model.specs.declared.Name.{Name}
use Rattle.model.specs.declared.Vec3.{Vec3}
use Rattle.model.specs.declared.Turns.{Turns}
use Rattle.model.specs.Limits.{name_limit}
use Rattle.model.specs.Memory.{State, no_turn}
use Rattle.model.specs.Pose.{origin}
use Rattle.model.specs.Refusals.{first, reading_ladder}
use Rattle.model.specs.Stored.{bytes_of}
use Rattle.model.specs.Request as model
use Rattle.model.specs.Told.{Told, tells, refuses}
use Rattle.facts.specs.declared.refusals.Refusal.{Refusal}
use Rattle.facts.specs.Refusals.{told}
use Rattle.request.specs.declared.Asked.{Asked}
use Rattle.request.specs.declared.Asked.TheVariants.{Define, Locate, Link, Copy, Remove, Enable, SetLevel, Save, Restore, Reset, ListEnabled, ListSystems, ListLinks, ListResultants, ListResultant, ListRelative, LastError}
use Rattle.request.specs.declared.Request.{Request}

-- [Commands] each case, with the names and values beside it
abbrev pub asked_of : Asked → List ℕ → List ℕ → Vec3 → Turns → model.Request
asked_of (Define k) a b t u = model.change (model.define k a t u)
asked_of Locate a b t u = model.change (model.locate a)
asked_of Link a b t u = model.change (model.link a b)
asked_of Copy a b t u = model.change (model.copy a b)
asked_of Remove a b t u = model.change (model.remove a)
asked_of Enable a b t u = model.change (model.enable a)
asked_of (SetLevel n) a b t u = model.change (model.set_level n)
asked_of Save a b t u = model.change model.save
asked_of Restore a b t u = model.change model.restore
asked_of Reset a b t u = model.change model.reset
asked_of ListEnabled a b t u = model.list model.enabled_ones
asked_of ListSystems a b t u = model.list model.systems_all
asked_of ListLinks a b t u = model.list model.links
asked_of ListResultants a b t u = model.list model.resultants
asked_of ListResultant a b t u = model.list (model.resultant_of a)
asked_of ListRelative a b t u = model.list (model.resultant_in a b)
asked_of LastError a b t u = model.last_error

-- the whole request
abbrev pub request_of : Request → model.Request
request_of r = asked_of r.asked (bytes_of r.first) (bytes_of r.second) r.offset r.turns

-- [Errors 4 to 6] what was read: the number, or the request where that is 0
abbrev pub request_told : Result Request Refusal → Told model.Request
request_told r = told request_of r

-- and the same of a reading
abbrev pub reading_told : model.Reading → Told model.Request
reading_told model.unknown = refuses 4
reading_told model.malformed = refuses 5
reading_told model.beyond = refuses 6
reading_told (model.asks q) = tells q

-- what was read says this reading, and its names lie within their arrays
pub record Says (r : Result Request Refusal) (reading : model.Reading) : Type 0 where
  pub says : request_told r ≡ reading_told reading
  pub fits : IfOk r (λ q. (q.first.len ≤ name_limit) × (q.second.len ≤ name_limit))

-- [Errors 4 to 6] the number of a refused line is the one that the ladder gives its reading, in every state
abbrev pub SameNumber : Type 0
SameNumber = (st : State) (r : Result Request Refusal) (reading : model.Reading) → Says r reading → (request_told r).value ≡ none → first (reading_ladder st reading) ≡ (request_told r).number

-- ---- requests without values

abbrev pub asking : Asked → Name → Name → Request
asking q a b = record { asked = q; first = a; second = b; offset = origin; turns = no_turn }

-- with these names
abbrev pub named : Asked → List ℕ → List ℕ → model.Reading
named q a b = model.asks (asked_of q a b origin no_turn)
