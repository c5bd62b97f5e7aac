use Rattle.std.proofs.Common.{◌≡◌}
use Rattle.rb_book.proofs.Words.{same_words}
use Rattle.rb_book.proofs.hashes.same_hash.Goals as goal

pub returns : goal.returns
returns c =
    same_words c.args.hash.now c.args.other.now c.fits-hash c.fits-other c.told-hash c.told-other _ _ _ _ _ _ _ _
    c.word.ensures c.word-2.ensures c.word-3.ensures c.word-4.ensures c.word-5.ensures c.word-6.ensures c.word-7.ensures c.word-8.ensures
