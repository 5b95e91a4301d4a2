use Rattle.std.proofs.Common.{◌≡◌, ◌∙◌, sym, ap, List, ◌∷◌, ◌++◌}
use Rattle.ts_base.specs.Bytes.{Bytes}
use Rattle.ts_core.specs.declared.re.Re.{Re}
use Rattle.ts_langfile.specs.Spelling.{listed, re, number32}
use Rattle.ts_langfile.proofs.ReLemmas.{spelled_cat, spelled_alt, written, repeat_written}
use Rattle.ts_langfile.proofs.writer.+put_re.Goals as goal

pub put_re-returns-in_ok-put_parts-in-Cat : goal.put_re-returns-in_ok-put_parts-in-Cat
put_re-returns-in_ok-put_parts-in-Cat t c =
    written c.args.out.now.items c.push-in-Cat.new.self.items c.put_parts.new.out.items (listed re c.as_slice.result.now) 2 c.args.re.now
    (ap re c.in-Cat.is ∙ spelled_cat c.in-Cat.parts ∙ ap (λ (parts : List Re). 2 ∷ listed re parts) (sym c.as_slice.ensures)) c.in_ok-push-in-Cat.ensures.items c.in_ok-put_parts-in-Cat.ensures

pub put_re-returns-in_ok-put_parts-in-Alt : goal.put_re-returns-in_ok-put_parts-in-Alt
put_re-returns-in_ok-put_parts-in-Alt t c =
    written c.args.out.now.items c.push-in-Alt.new.self.items c.put_parts-in-Alt.new.out.items (listed re c.as_slice-in-Alt.result.now) 3 c.args.re.now
    (ap re c.in-Alt.is ∙ spelled_alt c.in-Alt.parts ∙ ap (λ (parts : List Re). 3 ∷ listed re parts) (sym c.as_slice-in-Alt.ensures)) c.in_ok-push-in-Alt.ensures.items c.in_ok-put_parts-in-Alt.ensures

pub put_re-returns-in_ok-put_most-in-Repeat : goal.put_re-returns-in_ok-put_most-in-Repeat
put_re-returns-in_ok-put_most-in-Repeat t c =
    let inner : c.put_re.new.out.items ≡ c.push-in-Repeat.new.self.items ++ re c.in-Repeat.inner = c.in_ok-put_re-in-Repeat.ensures ∙ ap (λ (r : Re). c.push-in-Repeat.new.self.items ++ re r) c.get.ensures in
    let least : c.extend_from_slice.new.self.items ≡ c.put_re.new.out.items ++ number32 c.in-Repeat.least = c.in_ok-extend_from_slice-in-Repeat.ensures.items ∙ ap (λ (b : Bytes). c.put_re.new.out.items ++ b) c.to_be_bytes.ensures in
    repeat_written c.args.out.now.items c.push-in-Repeat.new.self.items c.put_re.new.out.items c.extend_from_slice.new.self.items c.put_most.new.out.items c.args.re.now c.in-Repeat.inner c.in-Repeat.least c.in-Repeat.most
    c.in-Repeat.is c.in_ok-push-in-Repeat.ensures.items inner least c.in_ok-put_most-in-Repeat.ensures
