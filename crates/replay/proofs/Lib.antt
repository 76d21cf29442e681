mod BatchLaws
