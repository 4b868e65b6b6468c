-- `script_fields::read_kind` meets its contract: the first event that has the name.
-- Assumes nothing.
use Rattle.std.proofs.Common.{rules, tests, ◌∙◌, List, ◌∷◌, [], eqb}
use Rattle.std.specs.Cmp.Lexicographic.{pointwise}
use Rattle.std.proofs.lemmas.Iterator.{YieldsList-from_slice}
use Rattle.std.proofs.lemmas.Iterator.Search.{find_from_yields_List}
use Rattle.structs.specs.declared.Kind.{Kind}
use Rattle.structs.specs.declared.Kind.TheVariants.{Join, Leave, Deliver, Repeat, Lose, Tick, Who}
use Rattle.script.specs.EventLine.{name_of, kind_in}
use Rattle.script_fields.proofs.Texts.{named_find}
use Rattle.script_fields.proofs.read_kind.Goals as goal

kinds : List Kind
kinds = Join ∷ Leave ∷ Deliver ∷ Repeat ∷ Lose ∷ Tick ∷ Who ∷ []

pub returns : goal.returns
unfolding kind_in kinds
returns c =
    let f = c.args.f.now in
    c.copied.ensures
    ∙ find_from_yields_List (λ k. pointwise eqb f (name_of k)) _ _ c.find.result c.find.ensures.ran (YieldsList-from_slice kinds cc) (λ x b q k. search (rules, tests))
    ∙ named_find kinds f
