use mathlib.Core.Path.{◌≡◌, refl, sym, ap, ◌∙◌}
use borrow.Author.Rules.{rules}
use lib.ListN.{length}
use Rattle.model.specs.Limits.{max_systems}
use Rattle.model.specs.Memory.{System, system_at}
use Rattle.model.specs.Stored.{systems_of, memory_of}
use Rattle.chains.proofs.Copies.{length_mapped}
use Rattle.model.proofs.Shape.{systems_of_count}
use Rattle.commands.proofs.Asked.{place_is}
use Rattle.commands.proofs.subject.look.Goals.{Start}
use Rattle.commands.proofs.subject.look.Goals as goal

long : (c : Start) → length c.args.m.systems ≡ max_systems
long c = search (length_mapped, rules)

pub returns : goal.returns
returns c =
    let m = c.args.m in
    let l = systems_of m in
    let places = c.places_named-places.ensures in
    let one = c.about-first.ensures (memory_of m) places.first_stands.place_is (ap (λ (s : System). s.kind) places.first_stands.system_is) in
    record {
      first = one;
      second = c.about-second.ensures (memory_of m) places.second_stands.place_is (ap (λ (s : System). s.kind) places.second_stands.system_is);
      source = places.first_stands.system_is ∙ ap (system_at l) (places.first_stands.place_is ∙ sym (place_is (memory_of m) _ _ one));
      named = places.first_stands.shaped c.requires;
      links = places.links_of;
      counted = places.count_value;
      stored = sym (systems_of_count m c.requires (long (goal.at.returns c).Start));
      enabled = refl;
    }
