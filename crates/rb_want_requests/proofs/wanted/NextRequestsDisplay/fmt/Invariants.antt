use Rattle.std.specs.Prelude.{flat_map, take, [], ◌∷◌, ◌++◌}
use Rattle.std.specs.Fmt.{HasWritten, IsPlainFormatter}
use Rattle.rb_want_requests.specs.Lines.{request_line}
use Rattle.rb_want_requests.specs.Reasons.{why_line}
use Rattle.rb_want_requests.proofs.wanted.NextRequestsDisplay.fmt.Given as goal

-- the lines so far are written
abbrev pub invariant-loop-request : goal.invariant-loop-request
invariant-loop-request g l =
    IsPlainFormatter l.fn.f
    → HasWritten g.W.Write.write_str_gives l.fn.f (flat_map (λ r. request_line l.folders r ++ 10 ∷ []) (take l.request-index l.request-items)) l.f

abbrev pub invariant-loop-why : goal.invariant-loop-why
invariant-loop-why g l =
    IsPlainFormatter l.fn.f
    → HasWritten g.W.Write.write_str_gives l.fn.f
    (flat_map (λ r. request_line l.self.folders.now r ++ 10 ∷ []) l.self.requests.items ++ flat_map (λ why. why_line why ++ 10 ∷ []) (take l.why-index l.why-items)) l.f
