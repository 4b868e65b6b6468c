-- `alone::told` meets its contract: the record is the action's where the reply accepts.
-- Assumes nothing.
use mathlib.Core.Path.{ap, ◌∙◌}
use Rattle.std.specs.Prelude.{Ok}
use Rattle.actions.specs.Done.{Done, done_of}
use Rattle.alone.proofs.Sizes.{action_packed}
use Rattle.alone.specs.Front.{Posted, posted_of, tell}
use Rattle.alone.proofs.Acts.{tell_done, tell_refused}
use Rattle.alone.proofs.told.Goals as goal

pub returns-then-told-eq0 : goal.returns-then-told-eq0
returns-then-told-eq0 c =
    let d : Done = done_of c.args.lone.point (Ok c.args.t) in
    let p : Posted = posted_of c.post-told.result c.post-told.new.buffer in
    tell_done c.args.lone d p c.if-told-eq0.true ∙ ap (tell c.args.lone d) c.post-told.ensures

pub returns-else-told-eq0 : goal.returns-else-told-eq0
returns-else-told-eq0 c =
    let d : Done = done_of c.args.lone.point (Ok c.args.t) in
    let p : Posted = posted_of c.post-told.result c.post-told.new.buffer in
    tell_refused c.args.lone d p c.if-told-eq0.false ∙ ap (tell c.args.lone d) c.post-told.ensures

pub post-told-requires : goal.post-told-requires
post-told-requires c = action_packed c.args.t _ c.well_formed.1.1.0 c.requires
