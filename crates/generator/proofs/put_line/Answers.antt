-- `generator::put_line` meets its contract: the letters stand in their places of the buffer, or were written from an array of their own.
use Rattle.std.proofs.Common.{◌≡◌, refl, ◌+◌, ◌-◌, length, take, drop, arith}
use Rattle.std.proofs.lemmas.List.{length-take, length-drop}
use Rattle.generator.proofs.Drawing.{drawn_there}
use Rattle.generator.proofs.put_line.Goals as goal

pub returns-then-n-w-clause-line : goal.returns-then-n-w-clause-line
returns-then-n-w-clause-line c =
    let w = c.args.w.now in
    let long : length (take (w.at + c.args.n - w.at) (drop w.at w.out.now)) ≡ c.args.n = omega (arith, length-take (w.at + c.args.n - w.at) (drop w.at w.out.now), length-drop w.at w.out.now, c.if-at-w.true, c.if-n-w.true) in
    record {
      buffer = refl;
      puts =
          drawn_there c.args.letters.now w.out.now c.draw-state.new.line w.at _ c.args.n _ c.args.start (omega arith) long c.draw-state.ensures.drawn
          (omega (arith, c.if-at-w.true, c.if-n-w.true)) w.bounded;
    }
