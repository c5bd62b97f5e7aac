use Rattle.std.proofs.Common.{◌∙◌, sym}
use Rattle.rb_super_turn.proofs.Drafts.{book_seen}
use Rattle.rb_super_turn.proofs.planning.table_for.Goals as goal

pub returns-clause-table : goal.returns-clause-table
returns-clause-table g c = λ job view.
    c.in_ok-table.ensures.table ∙ c.book-3.ensures ∙ c.in_ok-book.ensures
    ∙ sym (book_seen c.args.relayer.now c.args.client c.config_of-chain.result job c.requires.client c.config_of-chain.ensures.value view)
