-- The member that tells the hosts whose windows are refused.
use Rattle.std.proofs.Common.{◌≡◌, ℕ, true, List, ◌++◌, codes, Result, Ok, Err, append_assoc, append-nil, map, sym, ap, ◌∙◌}
use Rattle.std.specs.Result.{OnOk}
use Rattle.rb_script_types.specs.declared.version.Version.{Version}
use Rattle.rb_script_types.specs.declared.version.Version.TheVariants.{Four}
use Rattle.rb_script_text.specs.Json.{array, json_text, name_text, more_text}
use Rattle.rb_text_export.specs.ReportJson.{host_json, windows_members}

-- the one member that tells hosts in version 4
hosts_member : (v : Version) (chains : List (List ℕ)) (hosts : List ℕ) → v ≡ Four
    → more_text (windows_members v chains hosts) ≡ name_text true (codes "windows_back") ++ json_text (array (map (host_json chains) hosts))
hosts_member v chains hosts is = rw is (append-nil (name_text true (codes "windows_back") ++ json_text (array (map (host_json chains) hosts))))

pub hosts_told : {T E : Type 0} (r : Result T E) (old mid new : List ℕ) (v : Version) (chains : List (List ℕ)) (hosts : List ℕ) → v ≡ Four
    → mid ≡ old ++ name_text true (codes "windows_back") → OnOk r (new ≡ mid ++ json_text (array (map (host_json chains) hosts)))
    → OnOk r (new ≡ old ++ more_text (windows_members v chains hosts))
hosts_told (Ok u) old mid new v chains hosts is first second =
    let told = json_text (array (map (host_json chains) hosts)) in
    second ∙ ap (λ t. t ++ told) first ∙ append_assoc old (name_text true (codes "windows_back")) told
    ∙ ap (λ t. old ++ t) (sym (hosts_member v chains hosts is))
hosts_told (Err e) old mid new v chains hosts is first second = tt
