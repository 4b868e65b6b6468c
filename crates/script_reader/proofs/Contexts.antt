-- A context that was put at the front of the lent array, or none, by its length.
-- Assumes nothing.
use Rattle.std.proofs.Common.{◌≡◌, refl, ℕ, true, List, Option, None, Some, option_map, length}
use Rattle.std.proofs.lemmas.Option.{none-some, same_Some}
use Rattle.lists.specs.Options.{case_option}
use Rattle.machine.specs.Stations.{Station}
use Rattle.structs.specs.declared.Kind.{Kind}
use Rattle.script.specs.Put.{front_given}
use Rattle.script.specs.EventLine.{Said}
use Rattle.script_reader.specs.Heard.{heard_of}
use Rattle.script_reader.specs.Parts.{heard_said, context_said}

pub no_context : (o : Option (List ℕ)) (b lent : List ℕ) → None ≡ option_map length o → b ≡ front_given o lent → (o ≡ None) × (b ≡ lent)
no_context None b lent e f = (refl, f)
no_context (Some x) b lent e f = absurd (none-some (length x) e)

-- all else was read
pub a_context : (k : Kind) (a : ℕ) (t : Station) (m : ℕ) (p : Option ℕ) (o : Option (List ℕ)) (n : ℕ) (b lent : List ℕ)
    → Some n ≡ option_map length o → b ≡ front_given o lent
    → let said : Option Said = case_option o None (λ x. Some (record { kind = k; at = a; station = t; sequence = m; old = p; context = x })) in
    (record { readable = true; kind = k; at = a; station = t; sequence = m; old = p; len = n } ≡ heard_said said) × (b ≡ context_said said lent)
unfolding heard_of
a_context k a t m p None n b lent e f = cc
a_context k a t m p (Some x) n b lent e f = rw (same_Some n (length x) e) (refl, f)
