use Rattle.std.proofs.Common.{◌≡◌, ◌∙◌, sym, ap, subst, ◌+◌, None, length, length-append, arith}
use Rattle.std.specs.Str.{IsUtf8}
use Rattle.ts_base.specs.Bytes.{Bytes}
use Rattle.ts_lexer.specs.declared.scanned.Progress.{Progress}
use Rattle.ts_lexer.specs.declared.scanned.Run.{Run}
use Rattle.ts_lexer.specs.Runs.{Running}
use Rattle.ts_lexer.specs.Scanned.{PartMatches}
use Rattle.ts_lexer.specs.Ways.{IsSetOn, LeadsOn}
use Rattle.ts_lexer.proofs.RunLemmas.{Laws, run_begins}
use Rattle.ts_lexer.proofs.SofarLemmas.{sofar_none}
use Rattle.ts_lexer.proofs.WayLemmas.{here_ready, ended, opened, if_open}
use Rattle.ts_lexer.proofs.walking.scan.Goals as goal

pub read_piece-read-requires-clause-size : goal.read_piece-read-requires-clause-size
read_piece-read-requires-clause-size c =
    let whole = ap (λ (l : Bytes). length l) (c.split-later.ensures.whole ∙ c.copied-rest.ensures.same) in
    let sum = length-append c.split-later.result.0.now c.split-later.result.1 in
    let small = c.requires.size in
    omega arith

pub read_piece-read-requires-clause-ready : goal.read_piece-read-requires-clause-ready
read_piece-read-requires-clause-ready c =
    let g = c.requires.ready.0 in
    let valid = c.requires.ready.1 in
    (g, valid, here_ready g valid c.args.way.now c.args.view.now c.args.pair _ _ c.first_set-state.ensures.room c.requires.ready.2)

pub read_on-requires-clause-set : goal.read_on-requires-clause-set
read_on-requires-clause-set c = if_open (λ (r : Run). IsSetOn c.args.way.now r.state) c.read_piece-read.result c.in-Open.more c.in-Open.is c.read_piece-read.ensures.set

pub read_on-requires-clause-size : goal.read_on-requires-clause-size
read_on-requires-clause-size c =
    let size : c.in-Open.more.size ≡ 0 + length c.split-later.result.0.now = if_open (λ (r : Run). r.size ≡ 0 + length c.split-later.result.0.now) c.read_piece-read.result c.in-Open.more c.in-Open.is c.read_piece-read.ensures.size in
    let whole = ap (λ (l : Bytes). length l) (c.split-later.ensures.whole ∙ c.copied-rest.ensures.same) in
    let sum = length-append c.split-later.result.0.now c.split-later.result.1 in
    let small = c.requires.size in
    omega arith

pub read_on-requires-clause-ready : goal.read_on-requires-clause-ready
read_on-requires-clause-ready c =
    let g = c.requires.ready.0 in
    let valid = c.requires.ready.1 in
    (g, valid, here_ready g valid c.args.way.now c.args.view.now c.args.pair _ _ (c.read_piece-read.ensures.room ∙ c.first_set-state.ensures.room) c.requires.ready.2)

pub returns-in-Ended-clause-scanned : goal.returns-in-Ended-clause-scanned
returns-in-Ended-clause-scanned c g valid ready =
    let laws : Laws = record {
      front_prefix = c.a_front_has_fronts.ensures;
      word_front = c.every_word_is_a_front.ensures.word;
      nothing = c.beginnings.ensures.nothing;
      prefix = c.beginnings.ensures.prefix;
      longer = c.beginnings.ensures.longer;
      more = c.beginnings.ensures.more;
      follows = c.beginnings.ensures.follows;
      within = c.beginnings.ensures.within;
      one = c.one_character_at_a_time.ensures;
    } in
    let none : Progress = record { plain = None; word = 0; keyword = None; separator = 0 } in
    let utf8 = subst IsUtf8 c.copied-rest.ensures.same c.copied-rest.ensures.utf8 in
    let begins = run_begins laws (LeadsOn c.args.way.now c.first_set-state.new.walk c.first_set-state.result) g valid c.args.first c.args.rest.now none utf8 (c.first_set-state.ensures.leads g ready.made) (sofar_none g valid c.args.first (PartMatches g c.args.rest.now) (λ k n m. m.matches.some)) in
    let begun = subst (λ (l : Bytes). Running (LeadsOn c.args.way.now c.first_set-state.new.walk c.first_set-state.result) g valid c.args.first c.args.rest.now l 0 none) (sym (c.split-later.ensures.whole ∙ c.copied-rest.ensures.same)) begins in
    let here = here_ready g valid c.args.way.now c.args.view.now c.args.pair _ _ c.first_set-state.ensures.room ready in
    let read = c.read_piece-read.ensures.read g valid c.args.rest.now c.split-later.result.1 here begun in
    c.scanned.ensures g valid c.args.first c.args.rest.now (c.rules_on.ensures g _ ready.made)
    (ended (LeadsOn c.args.way.now c.read_piece-read.new.walk) g valid c.args.first c.args.rest.now c.split-later.result.1 c.read_piece-read.result c.in-Ended.all c.in-Ended.is read)

pub returns-in-Open-clause-scanned : goal.returns-in-Open-clause-scanned
returns-in-Open-clause-scanned c g valid ready =
    let laws : Laws = record {
      front_prefix = c.a_front_has_fronts.ensures;
      word_front = c.every_word_is_a_front.ensures.word;
      nothing = c.beginnings.ensures.nothing;
      prefix = c.beginnings.ensures.prefix;
      longer = c.beginnings.ensures.longer;
      more = c.beginnings.ensures.more;
      follows = c.beginnings.ensures.follows;
      within = c.beginnings.ensures.within;
      one = c.one_character_at_a_time.ensures;
    } in
    let none : Progress = record { plain = None; word = 0; keyword = None; separator = 0 } in
    let utf8 = subst IsUtf8 c.copied-rest.ensures.same c.copied-rest.ensures.utf8 in
    let begins = run_begins laws (LeadsOn c.args.way.now c.first_set-state.new.walk c.first_set-state.result) g valid c.args.first c.args.rest.now none utf8 (c.first_set-state.ensures.leads g ready.made) (sofar_none g valid c.args.first (PartMatches g c.args.rest.now) (λ k n m. m.matches.some)) in
    let begun = subst (λ (l : Bytes). Running (LeadsOn c.args.way.now c.first_set-state.new.walk c.first_set-state.result) g valid c.args.first c.args.rest.now l 0 none) (sym (c.split-later.ensures.whole ∙ c.copied-rest.ensures.same)) begins in
    let here = here_ready g valid c.args.way.now c.args.view.now c.args.pair _ _ c.first_set-state.ensures.room ready in
    let read = c.read_piece-read.ensures.read g valid c.args.rest.now c.split-later.result.1 here begun in
    let there = here_ready g valid c.args.way.now c.args.view.now c.args.pair _ _ (c.read_piece-read.ensures.room ∙ c.first_set-state.ensures.room) ready in
    c.read_on.ensures.scanned g valid c.args.rest.now there
    (opened (LeadsOn c.args.way.now c.read_piece-read.new.walk) g valid c.args.first c.args.rest.now c.split-later.result.1 c.read_piece-read.result c.in-Open.more c.in-Open.is read)
