-- How the code says in which way messages are sent.
use Rattle.rb_plan_client.specs.declared.batch.Sending.{Sending as CodeSending}
use Rattle.rb_plan_client.specs.declared.batch.Sending.TheVariants as sending
use Rattle.rb_plan_client.specs.Draft.{Sending, nothing, too_big, batched}

abbrev pub sending_view : {A : Type 0} → CodeSending A → Sending
sending_view sending.Nothing = nothing
sending_view (sending.TooBig index) = too_big index
sending_view (sending.Batched b) = batched b
