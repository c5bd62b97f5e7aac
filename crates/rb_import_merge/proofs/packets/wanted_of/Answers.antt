use Rattle.std.proofs.Common.{◌≡◌, ◌∙◌, ◌++◌, ◌∷◌, [], List, None, Bool, filter, if◌then◌else◌, ap}
use Rattle.std.specs.Prelude.{Any, option_map}
use Rattle.std.proofs.lemmas.Result.{err_from_is_err_and}
use Rattle.rb_import_check.specs.declared.error.CheckErrorName.{CheckErrorName}
use Rattle.rb_import_check.specs.declared.saved.Saved.{Saved}
use Rattle.rb_import_check.specs.Errors.{IsTold}
use Rattle.rb_import_merge.specs.declared.packets.SeenPacket.{SeenPacket}
use Rattle.rb_import_merge.specs.Packets.{is_wanted}
use Rattle.rb_import_merge.specs.Refusals.{IsFromOther}
use Rattle.rb_import_merge.proofs.Refusing.{two_sources}
use Rattle.rb_import_merge.proofs.Seeing.{wanted_more}
use Rattle.rb_import_merge.proofs.packets.wanted_of.Goals as goal

pub loop-seen-preserved : goal.loop-seen-preserved
loop-seen-preserved c =
    let brought : c.add_wanted.new.wanted.items
    ≡ c.loop-seen.wanted.items ++ (if is_wanted c.args.setup.now (option_map (λ e. e.now) c.args.end) c.args.answers.now c.seen-item.result.event.now then c.seen-item.result ∷ [] else []) =
    c.in_ok-add_wanted.ensures.wanted
    ∙ ap (λ (l : List Saved). c.loop-seen.wanted.items ++ (if is_wanted c.args.setup.now (option_map (λ e. e.now) c.args.end) l c.seen-item.result.event.now then c.seen-item.result ∷ [] else [])) c.in_ok-pending.ensures in
    record {
      wanted =
          wanted_more (λ (s : SeenPacket). is_wanted c.args.setup.now (option_map (λ e. e.now) c.args.end) c.args.answers.now s.event.now) c.loop-seen.wanted.items c.add_wanted.new.wanted.items c.args.all.now
          c.loop-seen.seen-index c.seen-item.result c.loop-seen-test.true c.seen-item.is c.loop-seen.invariant.wanted brought;
      source = λ none. c.in_ok-add_wanted.ensures.source none (c.loop-seen.invariant.source none);
    }

pub returns-in_err-add_wanted-clause-other : goal.returns-in_err-add_wanted-clause-other
returns-in_err-add_wanted-clause-other c =
    let e = c.in_err-add_wanted.field-0.0 in
    let test : SeenPacket → Bool = λ s. is_wanted c.args.setup.now (option_map (λ e. e.now) c.args.end) c.args.answers.now s.event.now in
    let two : IsTold CheckErrorName.TwoChannels ((c.args.setup.now.source_channel ≡ None) × Any (λ (p : SeenPacket). Any (IsFromOther e p) c.args.all.now) (filter test c.args.all.now)) e =
    two_sources c.args.setup.now test c.args.all.now c.loop-seen.wanted.items
    c.loop-seen.seen-index c.seen-item.result e c.loop-seen-test.true c.seen-item.is c.loop-seen.invariant.wanted c.in_err-add_wanted.ensures.other in
    let p = err_from_is_err_and c.from_residual-in_err-add_wanted.result c.from_residual-in_err-add_wanted.ensures.1 in
    rw (p.1, p.2) two
