use Rattle.std.proofs.Common.{◌∙◌, ap, is_some}
use Rattle.rb_valset.specs.Validator.{has_address}
use Rattle.rb_book.proofs.Lists.{is_some-position}
use Rattle.rb_book.proofs.addresses.has_member.Goals as goal

pub returns : goal.returns
returns g c = c.is_some.ensures ∙ ap is_some c.position.ensures.place ∙ is_some-position (has_address c.args.address.now) c.args.set.now
