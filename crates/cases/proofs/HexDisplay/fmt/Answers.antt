use Rattle.std.proofs.Common.{rules, ◌<◌, ◌+◌, ◌≡◌, ◌++◌, get_or, take, []}
use Rattle.std.specs.Fmt.{HasWritten}
use Rattle.std.specs.List.{flat_map}
use Rattle.std.proofs.lemmas.Fmt.{hex_byte}
use Rattle.std.proofs.lemmas.Grind.{put_two}
use Rattle.std.proofs.lemmas.List.{flat_map_more, take_more}
use Rattle.cases.specs.Text.{octet_text}
use Rattle.cases.proofs.HexDisplay.fmt.Goals as goal

pub loop-octet-preserved : goal.loop-octet-preserved
loop-octet-preserved g c = λ plain.
    let xs = c.args.self.now.0.now in
    let i = c.loop-octet.octet-index in
    let small : get_or xs i 0 < 256 = search rules in
    let digits : HasWritten g.W.Write.write_str_gives c.loop-octet.f (octet_text (get_or xs i 0)) c.write-in-loop-octet.new.self =
    rw (← hex_byte _ _ small) search rules
    in
    let joined : flat_map octet_text (take i xs) ++ octet_text (get_or xs i 0) ≡ flat_map octet_text (take (i + 1) xs) =
    rw (take_more xs i 0 c.loop-octet-test.true) (flat_map_more octet_text [] (take i xs) (get_or xs i 0))
    in
    put_two _ _ _ _ _ _ _ (c.loop-octet.invariant plain) digits joined
