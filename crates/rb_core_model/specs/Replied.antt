-- How the code replies.
use Rattle.rb_core_model.specs.Machine.{Reply, Noted, Opened}
use Rattle.rb_core_model.specs.declared.reply.Reply.{Reply as CodeReply}
use Rattle.rb_core_model.specs.declared.reply.Reply.TheVariants as code

abbrev pub reply_view : CodeReply → Reply
reply_view code.Noted = Noted
reply_view (code.Opened number) = Opened number
