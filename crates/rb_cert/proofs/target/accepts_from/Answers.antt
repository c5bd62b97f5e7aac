use Rattle.std.proofs.Common.{◌≡◌, Some}
use Rattle.std.specs.Option.{option_copied}
use Rattle.rb_book.specs.Book.{set_of}
use Rattle.rb_step.specs.KnownStep.{step_at}
use Rattle.rb_step.specs.StepRule.{Step, step_of}
use Rattle.rb_step.proofs.RecordAt.{accepts_known}
use Rattle.rb_cert.proofs.Targets.{step_to}
use Rattle.rb_cert.proofs.target.accepts_from.Goals as goal

pub returns : goal.returns
returns g c =
    let v = c.args.view.now in
    let k = c.args.known.now in
    let header = c.args.header.now in
    let own = c.args.own.now in
    let next : option_copied c.set-next.result ≡ set_of v.book k.record_of.next = rw (c.book.ensures.value, c.next.ensures, c.record.ensures) at c.set-next.ensures.value in
    let s : Step = step_of c.height.result c.record-2.result.now (option_copied c.set-next.result) header own in
    let known : step_at v.book k.height header.height ≡ Some s = rw (c.height.ensures, c.record-2.ensures, next) (step_to v c.requires.view k header own c.requires.known c.requires.target) in
    accepts_known v k.height header.height s c.options.result c.window.result c.accepts_in.result known c.options.ensures c.window.ensures c.accepts_in.ensures
