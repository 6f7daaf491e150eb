-- The policy file that the workload runs under, as text.
use Rattle.std.specs.Prelude.{ℕ, List, codes}

-- two controllers and one port: a layer that drops what goes to 10.0.3.0/24 and lets all else out, stateful, and one that puts what goes out in
-- network 5001 and takes what comes in out of it
unfoldable pub policy_text : List ℕ
policy_text = codes "{\"version\":1,\"controllers\":[1,2],\"ports\":[{\"port\":1,\"mac\":\"02:00:00:00:00:01\",\"rows\":1024,\"layers\":[{\"controller\":1,\"layer\":10,\"order\":1,\"default_out\":\"drop\",\"default_in\":\"drop\",\"pairs\":1000,\"idle\":240,\"linger\":10,\"groups\":[{\"group\":1,\"dir\":\"out\",\"when\":[],\"rules\":[{\"rule\":1,\"priority\":10,\"when\":[{\"field\":\"dst_ip\",\"any\":[\"10.0.3.0/24\"]}],\"action\":\"drop\",\"stateful\":false,\"last\":false},{\"rule\":2,\"priority\":20,\"when\":[],\"action\":\"allow\",\"stateful\":true,\"last\":false}]}]},{\"controller\":2,\"layer\":30,\"order\":3,\"default_out\":\"drop\",\"default_in\":\"drop\",\"pairs\":1000,\"idle\":240,\"linger\":10,\"groups\":[{\"group\":1,\"dir\":\"out\",\"when\":[],\"rules\":[{\"rule\":1,\"priority\":10,\"when\":[{\"field\":\"dst_ip\",\"any\":[\"10.0.0.0/16\"]}],\"action\":{\"decap\":false,\"set\":{},\"encap\":{\"dst_mac\":\"02:00:00:00:0a:02\",\"src_mac\":\"02:00:00:00:0a:01\",\"src_ip\":\"172.16.0.1\",\"dst_ip\":\"172.16.0.2\",\"vni\":5001}},\"stateful\":false,\"last\":false}]},{\"group\":2,\"dir\":\"in\",\"when\":[],\"rules\":[{\"rule\":1,\"priority\":10,\"when\":[{\"field\":\"vni\",\"any\":[5001]}],\"action\":{\"decap\":true,\"set\":{},\"encap\":null},\"stateful\":false,\"last\":false}]}]}]}]}"
